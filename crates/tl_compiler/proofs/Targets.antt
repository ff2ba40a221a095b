-- The targets of a code's jumps, where the code is built from its end.
use Rattle.std.proofs.Common.{◌≡◌, inl, ℕ, ◌<◌, List, ◌∷◌, length, Bool, true, false, not, Some, None, if◌then◌else◌, refl, ◌∙◌, ap, arith}
use Rattle.std.proofs.lemmas.List.{length-append}
use Rattle.tl_instr.specs.declared.instr.Instr.{Instr}
use Rattle.tl_instr.specs.declared.instr.Instr.TheVariants as I
use Rattle.tl_instr.specs.Instructions.{target}
use Rattle.tl_budget.specs.Loops.{Acts, kind}
use Rattle.tl_budget.specs.declared.limits.TheConstants.{MAX_DEPTH}
use Rattle.tl_syntax.specs.declared.operator.Operator.{Operator}
use Rattle.tl_syntax.specs.declared.operator.Operator.TheVariants as O
use Rattle.tl_lowering.specs.declared.program.Expression.{Expression}
use Rattle.tl_lowering.specs.declared.program.Expression.TheVariants as E
use Rattle.tl_lowering.specs.declared.program.Condition.{Condition}
use Rattle.tl_lowering.specs.declared.program.Condition.TheVariants as C
use Rattle.tl_lowering.specs.Sets.{Nodes}
use Rattle.tl_compiler.specs.Labels.{target_of}
use Rattle.tl_compiler.specs.Numbers.{register_of, behind, calculation, into_code, operand_code, operands_code, jump_code, comparison_code, branch_code}
use Rattle.tl_compiler.specs.Statements.{Exit, Site}
use Rattle.tl_compiler.proofs.Stretches.{Stretch}
use Rattle.tl_compiler.proofs.Nestings.{IsStraight, Nests, here, one, nests_further, nests_stretch}

-- each loop that opens between the two positions also closes between them; loops around both may end there
pub data Leaves : List Instr → List Instr → Type 0 where
  stays : {c k : List Instr} → Nests MAX_DEPTH c k → Leaves c k
  out : {c j k : List Instr} → Nests MAX_DEPTH c (I.End ∷ j) → Leaves j k → Leaves c k

-- a jump from before c may go to the label
pub record Reaches (c : List Instr) (label : ℕ) : Type 0 where
  pub end : List Instr
  pub long : length end ≡ label
  pub some : 0 < label
  pub leaves : Leaves c end

-- each jump before k has an allowed target
pub data Jumps : List Instr → List Instr → Type 0 where
  none : {k : List Instr} → Jumps k k
  straight : {i : Instr} {c k : List Instr} → target i ≡ None → Jumps c k → Jumps (i ∷ c) k
  jump : {i : Instr} {c k : List Instr} {l : ℕ} → target i ≡ Some (target_of l) → Reaches c l → Jumps c k → Jumps (i ∷ c) k

pub record SiteReaches (x : Site) (k : List Instr) : Type 0 where
  pub on : Reaches k (length k)
  pub pads : (held : Nodes) → Reaches k (x.pad held)
  pub exits : (exit : Exit) → x.exit ≡ Some exit → Reaches k exit.label

leaves_further : {c k j : List Instr} → Nests MAX_DEPTH c k → Leaves k j → Leaves c j
leaves_further n (stays m) = stays (nests_further n m)
leaves_further n (out m l) = out (nests_further n m) l

pub reaches_further : {c k : List Instr} {l : ℕ} → Nests MAX_DEPTH c k → Reaches k l → Reaches c l
reaches_further n r = record { end = r.end; long = r.long; some = r.some; leaves = leaves_further n r.leaves }

pub reaches_out : {c k : List Instr} {l : ℕ} → Nests MAX_DEPTH c (I.End ∷ k) → Reaches k l → Reaches c l
reaches_out n r = record { end = r.end; long = r.long; some = r.some; leaves = out n r.leaves }

pub jumps_further : {c k j : List Instr} → Jumps c k → Jumps k j → Jumps c j
jumps_further none m = m
jumps_further (straight e n) m = straight e (jumps_further n m)
jumps_further (jump e r n) m = jump e r (jumps_further n m)

-- ---- numbers and conditions

calculation_straight : (o : Operator) (x y z f : ℕ) → IsStraight (calculation o x y z f)
calculation_straight O.Add x y z f = inl refl
calculation_straight O.Subtract x y z f = inl refl
calculation_straight O.Multiply x y z f = inl refl
calculation_straight O.Divide x y z f = inl refl

calculation_target : (o : Operator) (x y z f : ℕ) → target (calculation o x y z f) ≡ Some (target_of f)
calculation_target O.Add x y z f = refl
calculation_target O.Subtract x y z f = refl
calculation_target O.Multiply x y z f = refl
calculation_target O.Divide x y z f = refl

acts : {d : ℕ} (i : Instr) (k : List Instr) → kind i ≡ Acts → Nests d (i ∷ k) k
acts i k e = one (inl e) here

unless_nests : {d : ℕ} (e : Expression) → ((x t f : ℕ) (k : List Instr) → Nests d (into_code e x t f k) k) → (t f : ℕ) (k : List Instr) → Nests d (operand_code e t f k) k
unless_nests (E.Constant w) into t f k = into t t f k
unless_nests (E.Value y) into t f k = here
unless_nests (E.Field n z) into t f k = into t t f k
unless_nests (E.Children n) into t f k = into t t f k
unless_nests (E.Calculated' o p a q b) into t f k = into t t f k

pub into_nests : {d : ℕ} → (e : Expression) (x t f : ℕ) (k : List Instr) → Nests d (into_code e x t f k) k
into_nests (E.Constant w) x t f k = acts (I.Set x w) k refl
into_nests (E.Value y) x t f k = acts (I.Copy x y) k refl
into_nests (E.Field n z) x t f k = acts (I.Get x n z) k refl
into_nests (E.Children n) x t f k = acts (I.Kids x n) k refl
into_nests (E.Calculated' o p a q b) x t f k =
    let i = calculation o x (register_of a t) (register_of b (behind a t)) f in
    nests_further (unless_nests a (into_nests a) t f (operand_code b (behind a t) f (i ∷ k)))
    (nests_further (unless_nests b (into_nests b) (behind a t) f (i ∷ k)) (one (calculation_straight o x (register_of a t) (register_of b (behind a t)) f) here))

pub operand_nests : {d : ℕ} → (e : Expression) (t f : ℕ) (k : List Instr) → Nests d (operand_code e t f k) k
operand_nests e t f k = unless_nests e (into_nests e) t f k

unless_jumps : (e : Expression) → ((x t f : ℕ) (k : List Instr) → Reaches k f → Jumps (into_code e x t f k) k) → (t f : ℕ) (k : List Instr) → Reaches k f → Jumps (operand_code e t f k) k
unless_jumps (E.Constant w) into t f k r = into t t f k r
unless_jumps (E.Value y) into t f k r = none
unless_jumps (E.Field n z) into t f k r = into t t f k r
unless_jumps (E.Children n) into t f k r = into t t f k r
unless_jumps (E.Calculated' o p a q b) into t f k r = into t t f k r

pub into_jumps : (e : Expression) (x t f : ℕ) (k : List Instr) → Reaches k f → Jumps (into_code e x t f k) k
into_jumps (E.Constant w) x t f k r = straight refl none
into_jumps (E.Value y) x t f k r = straight refl none
into_jumps (E.Field n z) x t f k r = straight refl none
into_jumps (E.Children n) x t f k r = straight refl none
into_jumps (E.Calculated' o p a q b) x t f k r =
    let y = register_of a t in
    let z = register_of b (behind a t) in
    let i = calculation o x y z f in
    let last = reaches_further (one (calculation_straight o x y z f) here) r in
    jumps_further (unless_jumps a (into_jumps a) t f (operand_code b (behind a t) f (i ∷ k)) (reaches_further (operand_nests b (behind a t) f (i ∷ k)) last))
    (jumps_further (unless_jumps b (into_jumps b) (behind a t) f (i ∷ k) last) (jump (calculation_target o x y z f) r none))

pub operand_jumps : (e : Expression) (t f : ℕ) (k : List Instr) → Reaches k f → Jumps (operand_code e t f k) k
operand_jumps e t f k r = unless_jumps e (into_jumps e) t f k r

pub operands_jumps : (a b : Expression) (t f : ℕ) (k : List Instr) → Reaches k f → Jumps (operands_code a b t f k) k
operands_jumps a b t f k r =
    jumps_further (operand_jumps a t f (operand_code b (behind a t) f k) (reaches_further (operand_nests b (behind a t) f k) r)) (operand_jumps b (behind a t) f k r)

pub operands_nests : {d : ℕ} → (a b : Expression) (t f : ℕ) (k : List Instr) → Nests d (operands_code a b t f k) k
operands_nests a b t f k = nests_further (operand_nests a t f (operand_code b (behind a t) f k)) (operand_nests b (behind a t) f k)

-- an instruction that jumps to a label if a test of two registers is true
record IsTest (i : ℕ → Instr) : Type 0 where
  is_target : (l : ℕ) → target (i l) ≡ Some l
  is_kind : (l : ℕ) → kind (i l) ≡ Acts

jump_nests : {d : ℕ} → (i : ℕ → Instr) → IsTest i → (sense : Bool) (label : ℕ) (k : List Instr) → Nests d (jump_code i sense label k) k
jump_nests i t true label k = acts (i (target_of label)) k (t.is_kind (target_of label))
jump_nests i t false label k = nests_further (acts (i (target_of (length k))) (I.Jump (target_of label) ∷ k) (t.is_kind (target_of (length k)))) (acts (I.Jump (target_of label)) k refl)

test_jumps : (i : ℕ → Instr) → IsTest i → (sense : Bool) (label : ℕ) (k : List Instr) → Reaches k label → Reaches k (length k) → Jumps (jump_code i sense label k) k
test_jumps i t true label k r on = jump (t.is_target (target_of label)) r none
test_jumps i t false label k r on =
    jump (t.is_target (target_of (length k))) (reaches_further (acts (I.Jump (target_of label)) k refl) on) (jump refl r none)

comparison_jumps : (i : ℕ → ℕ → ℕ → Instr) → ((x y : ℕ) → IsTest (i x y)) → (a b : Expression) (sense : Bool) (label t f : ℕ) (k : List Instr)
    → Reaches k label → Reaches k f → Reaches k (length k) → Jumps (comparison_code i a b sense label t f k) k
comparison_jumps i ts a b sense label t f k r fr on =
    let x = register_of a t in
    let y = register_of b (behind a t) in
    jumps_further (operands_jumps a b t f (jump_code (i x y) sense label k) (reaches_further (jump_nests (i x y) (ts x y) sense label k) fr)) (test_jumps (i x y) (ts x y) sense label k r on)

comparison_nests : {d : ℕ} → (i : ℕ → ℕ → ℕ → Instr) → ((x y : ℕ) → IsTest (i x y)) → (a b : Expression) (sense : Bool) (label t f : ℕ) (k : List Instr) → Nests d (comparison_code i a b sense label t f k) k
comparison_nests i ts a b sense label t f k =
    let x = register_of a t in
    let y = register_of b (behind a t) in
    nests_further (operands_nests a b t f (jump_code (i x y) sense label k)) (jump_nests (i x y) (ts x y) sense label k)

less : (x y : ℕ) → IsTest (λ l. I.JumpIfLess x y l)
less x y = record { is_target = λ l. refl; is_kind = λ l. refl }

greater : (x y : ℕ) → IsTest (λ l. I.JumpIfLess y x l)
greater x y = record { is_target = λ l. refl; is_kind = λ l. refl }

equal : (x y : ℕ) → IsTest (λ l. I.JumpIfEqual x y l)
equal x y = record { is_target = λ l. refl; is_kind = λ l. refl }

pub branch_nests : {n : ℕ} → (d : Condition) (sense : Bool) (label t f : ℕ) (k : List Instr) → Nests n (branch_code d sense label t f k) k
branch_nests (C.Less a b) sense label t f k = comparison_nests (λ x y l. I.JumpIfLess x y l) less a b sense label t f k
branch_nests (C.Greater a b) sense label t f k = comparison_nests (λ x y l. I.JumpIfLess y x l) greater a b sense label t f k
branch_nests (C.Equal a b) sense label t f k = comparison_nests (λ x y l. I.JumpIfEqual x y l) equal a b sense label t f k
branch_nests (C.Not' p d) sense label t f k = branch_nests d (not sense) label t f k
branch_nests (C.And' p d q e) sense label t f k =
    nests_further (branch_nests d false (if sense then length k else label) t f (branch_code e sense label t f k)) (branch_nests e sense label t f k)

pub branch_jumps : (d : Condition) (sense : Bool) (label t f : ℕ) (k : List Instr) → Reaches k label → Reaches k f → Reaches k (length k) → Jumps (branch_code d sense label t f k) k
branch_jumps (C.Less a b) sense label t f k r fr on = comparison_jumps (λ x y l. I.JumpIfLess x y l) less a b sense label t f k r fr on
branch_jumps (C.Greater a b) sense label t f k r fr on = comparison_jumps (λ x y l. I.JumpIfLess y x l) greater a b sense label t f k r fr on
branch_jumps (C.Equal a b) sense label t f k r fr on = comparison_jumps (λ x y l. I.JumpIfEqual x y l) equal a b sense label t f k r fr on
branch_jumps (C.Not' p d) sense label t f k r fr on = branch_jumps d (not sense) label t f k r fr on
branch_jumps (C.And' p d q e) sense label t f k r fr on =
    let behind_d = branch_code e sense label t f k in
    let stands = branch_nests e sense label t f k in
    jumps_further (branch_jumps d false (if sense then length k else label) t f behind_d (reaches_further stands (way_out sense)) (reaches_further stands fr) (begins stands)) (branch_jumps e sense label t f k r fr on)
  where
    way_out : (s : Bool) → Reaches k (if s then length k else label)
    way_out true = on
    way_out false = r

    begins : {c : List Instr} → Nests MAX_DEPTH c k → Reaches c (length c)
    begins {c} n = record { end = c; long = refl; some = longer (nests_stretch n); leaves = stays here }
      where
        longer : Stretch c k → 0 < length c
        longer s = let e = ap length s.joined ∙ length-append s.front k in let lt = on.some in omega arith
