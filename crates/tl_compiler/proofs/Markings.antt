-- The nodes held at each instruction of a code that is built from its end.
use Rattle.std.proofs.Common.{◌≡◌, inl, ℕ, suc, ◌≤◌, List, [], ◌∷◌, length, Bool, true, false, not, Option, Some, None, if◌then◌else◌, refl, sym, ◌∙◌, ap, subst, arith}
use Rattle.std.specs.Prelude.{nat_eq}
use Rattle.std.proofs.lemmas.Bool.{eq-eqb, ne_eqb, eqb-true}
use Rattle.tl_instr.specs.declared.instr.Instr.{Instr}
use Rattle.tl_instr.specs.declared.instr.Instr.TheVariants as I
use Rattle.tl_instr.specs.Instructions.{target}
use Rattle.tl_budget.specs.Loops.{Opens, Acts, kind}
use Rattle.tl_budget.specs.declared.limits.TheConstants.{MAX_DEPTH}
use Rattle.tl_verify.specs.declared.marks.Marks.{Marks}
use Rattle.tl_verify.specs.Marks.{is_held, after, goes_on, source, destination, is_first, is_return}
use Rattle.tl_verify.specs.Acceptable.{Allows}
use Rattle.tl_syntax.specs.declared.operator.Operator.{Operator}
use Rattle.tl_syntax.specs.declared.operator.Operator.TheVariants as O
use Rattle.tl_lowering.specs.declared.program.Expression.{Expression}
use Rattle.tl_lowering.specs.declared.program.Expression.TheVariants as E
use Rattle.tl_lowering.specs.declared.program.Statement.{Statement}
use Rattle.tl_lowering.specs.Sets.{Nodes}
use Rattle.tl_lowering.specs.Sound.{IsReadable}
use Rattle.tl_lowering.specs.Outcomes.{may_fail, after as held_after, fails, breaks}
use Rattle.tl_compiler.specs.Labels.{target_of}
use Rattle.tl_compiler.specs.Numbers.{register_of, behind, calculation, into_code, operand_code}
use Rattle.tl_compiler.specs.Statements.{Exit, Site}
use Rattle.tl_compiler.specs.Among.{IsIn}
use Rattle.tl_compiler.proofs.SetLemmas.{Within}
use Rattle.tl_compiler.proofs.Nestings.{IsStraight, Nests}
use Rattle.tl_compiler.proofs.Entrances.{entered}

-- ---- marks

-- the element at a distance from the end
abbrev pub at_label : {A : Type 0} → List A → ℕ → Option A
at_label [] l = None
at_label (x ∷ xs) l = if nat_eq l (suc (length xs)) then Some x else at_label xs l

-- the nodes held, and whether the tree may have been entered
abbrev pub marks : Nodes → Bool → Marks
marks held e = record { held = held; is_open = not e }

-- there are marks at the label that fit these
pub record Brings (ms : List (Option Marks)) (label : ℕ) (m : Marks) : Type 0 where
  pub there : Marks
  pub at : at_label ms label ≡ Some (Some there)
  pub held : there.held ≡ m.held
  pub is_open : there.is_open ≡ true → m.is_open ≡ true

-- control may go on from the instruction with the marks it has there
pub record Passes (i : Instr) (m : Marks) (ms : List (Option Marks)) : Type 0 where
  pub allows : Allows i m
  pub next : goes_on i ≡ true → Brings ms (length ms) (after i m)
  pub aside : (t : ℕ) → target i ≡ Some t → (l : ℕ) × (t ≡ target_of l) × Brings ms l m

abbrev pub is_by : Instr → Bool
is_by (I.RepeatBy turns count) = true
is_by i = false

pub data Marked : List Instr → List (Option Marks) → List Instr → List (Option Marks) → Type 0 where
  none : {k : List Instr} {ns : List (Option Marks)} → Marked k ns k ns
  dead : {i : Instr} {c k : List Instr} {ms ns : List (Option Marks)} → Marked c ms k ns → Marked (i ∷ c) (None ∷ ms) k ns
  live : {i : Instr} {c k : List Instr} {ms ns : List (Option Marks)} {m : Marks} → IsStraight i → Passes i m ms → Marked c ms k ns → Marked (i ∷ c) (Some m ∷ ms) k ns
  turn : {i : Instr} {w : ℕ} {body j k : List Instr} {mb mj ns : List (Option Marks)} {m : Marks} {last : Option Marks} → kind i ≡ Opens w → Nests MAX_DEPTH body (I.End ∷ j)
      → Marked body mb (I.End ∷ j) (last ∷ mj) → Brings mb (length mb) m → (is_by i ≡ true → Brings mj (length mj) m)
      → ((k : Marks) → last ≡ Some k → Brings mj (length mj) k × Brings mb (length mb) k) → Marked j mj k ns → Marked (i ∷ body) (Some m ∷ mb) k ns

pub marked_further : {c k j : List Instr} {ms ns ls : List (Option Marks)} → Marked c ms k ns → Marked k ns j ls → Marked c ms j ls
marked_further none x = x
marked_further (dead n) x = dead (marked_further n x)
marked_further (live s p n) x = live s p (marked_further n x)
marked_further (turn o nests body into past ends n) x = turn o nests body into past ends (marked_further n x)

-- there are as many marks as instructions
pub marked_long : {c k : List Instr} {ms ns : List (Option Marks)} → Marked c ms k ns → length ns ≡ length k → length ms ≡ length c
marked_long none e = e
marked_long (dead n) e = ap suc (marked_long n e)
marked_long (live s p n) e = ap suc (marked_long n e)
marked_long (turn {j = j} {mj = mj} o nests body into past ends n) e = ap suc (marked_long body (ap suc (marked_long n e)))

label_low : {A : Type 0} (xs : List A) (l : ℕ) (x : A) → at_label xs l ≡ Some x → l ≤ length xs
label_low [] l x e = cc
label_low (y ∷ xs) l x e = by (nat_eq l (suc (length xs))) refl e (λ f. label_low xs l x f)
  where
    by : (b : Bool) → nat_eq l (suc (length xs)) ≡ b → (if b then Some y else at_label xs l) ≡ Some x → (at_label xs l ≡ Some x → l ≤ length xs) → l ≤ suc (length xs)
    by true t f rest = let h = eqb-true l (suc (length xs)) t in omega arith
    by false t f rest = let le = rest f in omega arith

pub label_stays : {A : Type 0} (xs : List A) (l : ℕ) (x y : A) → at_label xs l ≡ Some x → at_label (y ∷ xs) l ≡ Some x
label_stays xs l x y e =
    let le = label_low xs l x e in
    ap (λ b. if b then Some y else at_label xs l) (ne_eqb l (suc (length xs)) (λ h. absurd (omega arith))) ∙ e

pub brings_on : {ms : List (Option Marks)} {l : ℕ} {m : Marks} (x : Option Marks) → Brings ms l m → Brings (x ∷ ms) l m
brings_on {ms} {l} x b = record { there = b.there; at = label_stays ms l (Some b.there) x b.at; held = b.held; is_open = b.is_open }

pub first_brings : (m : Marks) (ms : List (Option Marks)) → Brings (Some m ∷ ms) (suc (length ms)) m
first_brings m ms = record { there = m; at = ap (λ b. if b then Some (Some m) else at_label ms (suc (length ms))) (eq-eqb (suc (length ms)) (suc (length ms)) refl); held = refl; is_open = λ e. e }

-- the code after a statement has fitting marks for each of the statement's paths
pub record Promises (a : Statement) (held : Nodes) (e : Bool) (x : Site) (ns : List (Option Marks)) : Type 0 where
  pub after : (h : Nodes) (f : Bool) → held_after a held ≡ Some h → (entered a e).after ≡ Some f → Brings ns (length ns) (marks h f)
  pub fails : (h : Nodes) (f : Bool) → IsIn h (fails a held) → (entered a e).fails ≡ Some f → Brings ns (x.pad h) (marks h f)
  pub breaks : (h : Nodes) (f : Bool) (exit : Exit) → IsIn h (breaks a held) → (entered a e).breaks ≡ Some f → x.exit ≡ Some exit
      → Within exit.held h × Brings ns exit.label (marks exit.held f)

-- a piece of code in front of k that begins with these marks
pub record Begins (c k : List Instr) (ns : List (Option Marks)) (m : Marks) : Type 0 where
  pub marks : List (Option Marks)
  pub marked : Marked c marks k ns
  pub begins : Brings marks (length marks) m

-- ---- numbers

pub begins_further : {c k j : List Instr} {ls : List (Option Marks)} {m n : Marks} → (b : Begins k j ls n) → Begins c k b.marks m → Begins c j ls m
begins_further b a = record { marks = a.marks; marked = marked_further a.marked b.marked; begins = a.begins }

-- an instruction that doesn't change the marks
pub one_more : (i : Instr) (k : List Instr) (ns : List (Option Marks)) (m : Marks) → IsStraight i → Allows i m → after i m ≡ m → Brings ns (length ns) m
    → ((t : ℕ) → target i ≡ Some t → (l : ℕ) × (t ≡ target_of l) × Brings ns l m) → Begins (i ∷ k) k ns m
one_more i k ns m s allows same on aside = record {
  marks = Some m ∷ ns;
  marked = live s (record { allows = allows; next = λ g. subst (Brings ns (length ns)) (sym same) on; aside = aside }) none;
  begins = first_brings m ns;
}

pub free_of_nodes : (i : Instr) (m : Marks) → source i ≡ None → destination i ≡ None → is_first i ≡ false → is_return i ≡ false → Allows i m
free_of_nodes i m s d f r = record { held = λ n e. cc; empty = λ n e. cc; is_open = λ e. cc; returns = λ e. cc }

pub reads : (i : Instr) (m : Marks) (n : ℕ) → source i ≡ Some n → is_held m n ≡ true → destination i ≡ None → is_first i ≡ false → is_return i ≡ false → Allows i m
reads i m n s h d f r = record { held = λ k e. let same : n ≡ k = cc in subst (λ j. is_held m j ≡ true) same h; empty = λ k e. cc; is_open = λ e. cc; returns = λ e. cc }

pub straight_of : (i : Instr) → kind i ≡ Acts → IsStraight i
straight_of i e = inl e

-- if a number may fail, the failure's label has fitting marks
abbrev pub FailsTo : Bool → List (Option Marks) → ℕ → Marks → Type 0
FailsTo may ns f m = may ≡ true → Brings ns f m

pub to_label : (i : Instr) (ns : List (Option Marks)) (m : Marks) (f : ℕ) → target i ≡ Some (target_of f) → Brings ns f m → (t : ℕ) → target i ≡ Some t → (l : ℕ) × (t ≡ target_of l) × Brings ns l m
to_label i ns m f is b t e = let same : t ≡ target_of f = cc in (f, same, b)

pub nowhere : (i : Instr) (ns : List (Option Marks)) (m : Marks) → target i ≡ None → (t : ℕ) → target i ≡ Some t → (l : ℕ) × (t ≡ target_of l) × Brings ns l m
nowhere i ns m is t e = cc

calculation_marked : (o : Operator) (x y z f : ℕ) (k : List Instr) (ns : List (Option Marks)) (m : Marks) → Brings ns (length ns) m → Brings ns f m → Begins (calculation o x y z f ∷ k) k ns m
calculation_marked O.Add x y z f k ns m on fail = let i = I.Add x y z (target_of f) in one_more i k ns m (straight_of i refl) (free_of_nodes i m refl refl refl refl) refl on (to_label i ns m f refl fail)
calculation_marked O.Subtract x y z f k ns m on fail = let i = I.Subtract x y z (target_of f) in one_more i k ns m (straight_of i refl) (free_of_nodes i m refl refl refl refl) refl on (to_label i ns m f refl fail)
calculation_marked O.Multiply x y z f k ns m on fail = let i = I.Multiply x y z (target_of f) in one_more i k ns m (straight_of i refl) (free_of_nodes i m refl refl refl refl) refl on (to_label i ns m f refl fail)
calculation_marked O.Divide x y z f k ns m on fail = let i = I.Divide x y z (target_of f) in one_more i k ns m (straight_of i refl) (free_of_nodes i m refl refl refl refl) refl on (to_label i ns m f refl fail)

-- the code of a number doesn't change the marks
abbrev pub IntoMarked : Expression → Type 0
IntoMarked e = (x t f : ℕ) (k : List Instr) (ns : List (Option Marks)) (m : Marks) (d : ℕ) → IsReadable d m.held e → Brings ns (length ns) m → FailsTo (may_fail e) ns f m → Begins (into_code e x t f k) k ns m

pub stays_there : {ns ms : List (Option Marks)} {c k : List Instr} {l : ℕ} {m : Marks} → Marked c ms k ns → Brings ns l m → Brings ms l m
stays_there none b = b
stays_there (dead n) b = brings_on None (stays_there n b)
stays_there (live {m = m} s p n) b = brings_on (Some m) (stays_there n b)
stays_there (turn {m = m} {last = last} o nests body into past ends n) b = brings_on (Some m) (stays_there body (brings_on last (stays_there n b)))

pub operand_by : (e : Expression) → IntoMarked e → (t f : ℕ) (k : List Instr) (ns : List (Option Marks)) (m : Marks) (d : ℕ) → IsReadable d m.held e → Brings ns (length ns) m → FailsTo (may_fail e) ns f m → Begins (operand_code e t f k) k ns m
operand_by (E.Constant w) into t f k ns m d r on fail = into t t f k ns m d r on fail
operand_by (E.Value y) into t f k ns m d r on fail = record { marks = ns; marked = none; begins = on }
operand_by (E.Field n z) into t f k ns m d r on fail = into t t f k ns m d r on fail
operand_by (E.Children n) into t f k ns m d r on fail = into t t f k ns m d r on fail
operand_by (E.Calculated' o p a q b) into t f k ns m d r on fail = into t t f k ns m d r on fail

pub into_marked : (e : Expression) → IntoMarked e
into_marked (E.Constant w) x t f k ns m d r on fail = let i = I.Set x w in one_more i k ns m (straight_of i refl) (free_of_nodes i m refl refl refl refl) refl on (nowhere i ns m refl)
into_marked (E.Value y) x t f k ns m d r on fail = let i = I.Copy x y in one_more i k ns m (straight_of i refl) (free_of_nodes i m refl refl refl refl) refl on (nowhere i ns m refl)
into_marked (E.Field n z) x t f k ns m d r on fail = let i = I.Get x n z in one_more i k ns m (straight_of i refl) (reads i m n refl r refl refl refl) refl on (nowhere i ns m refl)
into_marked (E.Children n) x t f k ns m d r on fail = let i = I.Kids x n in one_more i k ns m (straight_of i refl) (reads i m n refl r refl refl refl) refl on (nowhere i ns m refl)
into_marked (E.Calculated' o p a q b) x t f k ns m d r on fail =
    let y = register_of a t in
    let z = register_of b (behind a t) in
    let i = calculation o x y z f in
    let last = calculation_marked o x y z f k ns m on (fail refl) in
    let second = operand_by b (into_marked b) (behind a t) f (i ∷ k) last.marks m d r.1 last.begins (λ e. stays_there last.marked (fail refl)) in
    let both = begins_further last second in
    begins_further both (operand_by a (into_marked a) t f (operand_code b (behind a t) f (i ∷ k)) both.marks m d r.0 both.begins (λ e. stays_there both.marked (fail refl)))
