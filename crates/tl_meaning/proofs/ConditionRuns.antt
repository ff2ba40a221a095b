-- The code of a condition goes to its label if the condition has the wanted value, and otherwise on.
use Rattle.std.proofs.Common.{◌≡◌, ℕ, suc, ◌-◌, ◌<◌, ◌≤◌, List, [], ◌∷◌, length, map, Option, Some, None, Bool, true, false, not, is_some, if◌then◌else◌, refl, sym, ap, ap₂, ◌∙◌, subst, arith}
use Rattle.std.specs.Prelude.{ℤ}
use Rattle.std.specs.Int.Signed.{lt_z}
use Rattle.std.specs.Ordering.{int_eq}
use Rattle.tl_instr.specs.declared.operand.TheConstants.{VALUE_REGISTERS}
use Rattle.tl_instr.specs.declared.instr.Instr.{Instr}
use Rattle.tl_instr.specs.declared.instr.Instr.TheVariants as I
use Rattle.tl_tree_locking.specs.declared.action.Action.TheVariants as did
use Rattle.tl_budget.specs.Loops.{Acts, kind}
use Rattle.tl_machine.specs.Runs.{State, Run}
use Rattle.tl_machine.specs.Alone.{effect, jump_if, value}
use Rattle.tl_machine.specs.Left.{Frame}
use Rattle.tl_lowering.specs.declared.program.Expression.{Expression}
use Rattle.tl_lowering.specs.declared.program.Condition.{Condition}
use Rattle.tl_lowering.specs.declared.program.Condition.TheVariants as C
use Rattle.tl_compiler.specs.Aiming.{aimed}
use Rattle.tl_compiler.specs.Labels.{target_of}
use Rattle.tl_compiler.specs.Numbers.{register_of, behind, operand_code, jump_code, comparison_code, branch_code}
use Rattle.tl_lowering.specs.Sets.{Nodes}
use Rattle.tl_meaning.specs.Meaning.{with_both, opposite, both_true, number, truth, held_at}
use Rattle.tl_meaning.specs.Leading.{Leads, Runs, from_label, IsInside, Kept, led_to, ConditionLeads}
use Rattle.tl_compiler.specs.Tails.{Tail}
use Rattle.tl_lowering.specs.Sound.{IsReadable, IsTestable}
use Rattle.tl_meaning.proofs.Steps.{and_on, further_in, goes_to_next, goes_to_label}
use Rattle.tl_compiler.proofs.TailLemmas.{tail_further, tail_behind, tail_length}
use Rattle.tl_compiler.proofs.Stretches.{tail_of_stretch}
use Rattle.tl_compiler.proofs.NumberStretches.{operand_tail, jump_stretch, branch_tail}
use Rattle.tl_meaning.proofs.NumberRuns.{readable_further, same_number, kept_on, kept_below, register_below, behind_above, OperandEnds, operand_runs}

pub same_truth : (parents : List ℕ) (d : Condition) (t : ℕ) (held : Nodes) (s u : State) → IsTestable t held d → Kept t s u → truth parents d u ≡ truth parents d s
same_truth parents (C.Less a b) t held s u r k = ap₂ (with_both (λ x y. Some (lt_z x y))) (same_number parents a t held s u r.0 k) (same_number parents b t held s u r.1 k)
same_truth parents (C.Greater a b) t held s u r k = ap₂ (with_both (λ x y. Some (lt_z y x))) (same_number parents a t held s u r.0 k) (same_number parents b t held s u r.1 k)
same_truth parents (C.Equal a b) t held s u r k = ap₂ (with_both (λ x y. Some (int_eq x y))) (same_number parents a t held s u r.0 k) (same_number parents b t held s u r.1 k)
same_truth parents (C.Not' p d) t held s u r k = ap opposite (same_truth parents d t held s u r k)
same_truth parents (C.And' p d q e) t held s u r k = ap₂ both_true (same_truth parents d t held s u r.0 k) (same_truth parents e t held s u r.1 k)

-- an instruction that jumps if a test of two registers is true
record Jumps (parents : List ℕ) (jump : ℕ → ℕ → ℕ → Instr) (test : ℤ → ℤ → Bool) : Type 0 where
  kinds : (x y l : ℕ) → kind (jump x y l) ≡ Acts
  acts : (n x y l : ℕ) → kind (aimed n (jump x y l)) ≡ Acts
  does : (n x y l p : ℕ) (s : State) → effect parents (aimed n (jump x y l)) p s ≡ jump_if (test (value s x) (value s y)) p (n - l) s

module _ {c : List Instr} (parents : List ℕ) (ready : Runs c) (fs : List Frame) where
  -- where the code of a condition in front of k leads, from this run and state
  abbrev pub BranchEnds : Bool → ℕ → ℕ → ℕ → ℕ → Run → State → Option Bool → Type 0
  BranchEnds sense label t f k from s b = ConditionLeads c parents fs sense label t f k from s b

  abbrev pub BranchRuns : Condition → Type 0
  BranchRuns d = (sense : Bool) (label t f : ℕ) (k : List Instr) (s : State) → Tail c (branch_code d sense label t f k) → f ≤ length k → label ≤ length k → IsInside c fs (length k)
      → IsTestable t (held_at s) d → length s.values ≡ VALUE_REGISTERS
      → BranchEnds sense label t f (length k) (from_label c parents fs (length (branch_code d sense label t f k)) s) s (truth parents d s)

  from_there : (sense : Bool) (label t f k : ℕ) (from : Run) (there : ℕ) (s u : State) → Leads from [] (from_label c parents fs there u) → Kept t s u
      → (b : Option Bool) → BranchEnds sense label t f k (from_label c parents fs there u) u b → BranchEnds sense label t f k from s b
  from_there sense label t f k from there s u leads kept None ends = (ends.0, and_on leads ends.1, kept_on (omega arith) kept ends.2)
  from_there sense label t f k from there s u leads kept (Some b) ends = (ends.0, and_on leads ends.1, kept_on (omega arith) kept ends.2)

  jump_runs : (jump : ℕ → ℕ → ℕ → Instr) (test : ℤ → ℤ → Bool) → Jumps parents jump test → (x y : ℕ) (sense : Bool) (label : ℕ) (k : List Instr) (s : State)
      → Tail c (jump_code (jump x y) sense label k) → label ≤ length k → IsInside c fs (length k)
      → (b : Bool) → test (value s x) (value s y) ≡ b
      → Leads (from_label c parents fs (length (jump_code (jump x y) sense label k)) s) [] (from_label c parents fs (led_to b sense label (length k)) s)
  jump_runs jump test jumps x y true label k s tail le inside true e =
      goes_to_label parents ready fs (jump x y (target_of label)) k s s did.Plain label tail inside (jumps.acts _ x y _) le
      (jumps.does _ x y _ _ s ∙ ap (λ b. jump_if b (length c - suc (length k)) (length c - target_of label) s) e)
  jump_runs jump test jumps x y true label k s tail le inside false e =
      goes_to_next parents ready fs (jump x y (target_of label)) k s s did.Plain tail inside (jumps.acts _ x y _)
      (jumps.does _ x y _ _ s ∙ ap (λ b. jump_if b (length c - suc (length k)) (length c - target_of label) s) e)
  jump_runs jump test jumps x y false label k s tail le inside true e =
      let j = I.Jump (target_of label) ∷ k in
      goes_to_label parents ready fs (jump x y (target_of (length k))) j s s did.Plain (length k) tail (further_in c fs (length k) (suc (length k)) (omega arith) inside) (jumps.acts _ x y _) (omega arith)
      (jumps.does _ x y _ _ s ∙ ap (λ b. jump_if b (length c - suc (length j)) (length c - target_of (length k)) s) e)
  jump_runs jump test jumps x y false label k s tail le inside false e =
      let j = I.Jump (target_of label) ∷ k in
      and_on
      (goes_to_next parents ready fs (jump x y (target_of (length k))) j s s did.Plain tail (further_in c fs (length k) (suc (length k)) (omega arith) inside) (jumps.acts _ x y _)
      (jumps.does _ x y _ _ s ∙ ap (λ b. jump_if b (length c - suc (length j)) (length c - target_of (length k)) s) e))
      (goes_to_label parents ready fs (I.Jump (target_of label)) k s s did.Plain label (tail_further tail (tail_behind _ j)) inside refl le refl)

  module _ (jump : ℕ → ℕ → ℕ → Instr) (test : ℤ → ℤ → Bool) (jumps : Jumps parents jump test) (sense : Bool) (label t f : ℕ) (k : List Instr) (le : f ≤ length k) (le_label : label ≤ length k) (inside : IsInside c fs (length k)) where
    -- after both operands are computed
    then_jump : (x v : ℕ) (b : Expression) (s : State) (m : ℤ) → Tail c (jump_code (jump x (register_of b v)) sense label k) → t ≤ v → x < v → value s x ≡ m
        → (from : Run) (n : Option ℤ) → OperandEnds parents ready fs b v f (jump_code (jump x (register_of b v)) sense label k) from s n
        → BranchEnds sense label t f (length k) from s (with_both (λ x y. Some (test x y)) (Some m) n)
    then_jump x v b s m tail above below is from None ends = (ends.0, ends.1, kept_below above ends.2)
    then_jump x v b s m tail above below is from (Some n) ends =
        let w = ends.0 in
        let made = ends.2 in
        let both : test (value w x) (value w (register_of b v)) ≡ test m n = ap₂ test (made.kept.values x below ∙ is) made.here in
        (w, and_on ends.1 (jump_runs jump test jumps x (register_of b v) sense label k w tail le_label inside (test m n) both), kept_below above made.kept)

    then_second : (a b : Expression) (s : State)
        → Tail c (operand_code b (behind a t) f (jump_code (jump (register_of a t) (register_of b (behind a t))) sense label k))
        → IsReadable t (held_at s) a → IsReadable t (held_at s) b
        → (from : Run) (m : Option ℤ) → OperandEnds parents ready fs a t f (operand_code b (behind a t) f (jump_code (jump (register_of a t) (register_of b (behind a t))) sense label k)) from s m
        → BranchEnds sense label t f (length k) from s (with_both (λ x y. Some (test x y)) m (number parents b s))
    then_second a b s tail ra rb from None ends = ends
    then_second a b s tail ra rb from (Some m) ends =
        let u = ends.0 in
        let made = ends.2 in
        let v = behind a t in
        let x = register_of a t in
        let last = jump_code (jump x (register_of b v)) sense label k in
        let above = behind_above a t in
        let long : length k ≤ length last = tail_length (tail_of_stretch (jump_stretch (jump x (register_of b v)) (jumps.kinds x (register_of b v)) sense label k)) in
        let readable : IsReadable v (held_at u) b =
        subst (λ ns. IsReadable v (map is_some ns) b) (sym made.kept.nodes) (readable_further b t v (held_at s) above rb) in
        let ends_b = operand_runs parents ready fs b v f last u tail (omega arith) (further_in c fs (length k) (length last) long inside) readable made.kept.size in
        let done : BranchEnds sense label t f (length k) (from_label c parents fs (length (operand_code b v f last)) u) u (with_both (λ x y. Some (test x y)) (Some m) (number parents b u)) =
        then_jump x v b u m (tail_further tail (operand_tail b v f last)) above (register_below a t (held_at s) ra) made.here (from_label c parents fs (length (operand_code b v f last)) u) (number parents b u) ends_b in
        from_there sense label t f (length k) from (length (operand_code b v f last)) s u ends.1 made.kept (with_both (λ x y. Some (test x y)) (Some m) (number parents b s))
        (subst (λ n. BranchEnds sense label t f (length k) (from_label c parents fs (length (operand_code b v f last)) u) u (with_both (λ x y. Some (test x y)) (Some m) n)) (same_number parents b t (held_at s) s u rb made.kept) done)

    comparison_runs : (a b : Expression) (s : State) → Tail c (comparison_code jump a b sense label t f k) → IsReadable t (held_at s) a → IsReadable t (held_at s) b → length s.values ≡ VALUE_REGISTERS
        → BranchEnds sense label t f (length k) (from_label c parents fs (length (comparison_code jump a b sense label t f k)) s) s (with_both (λ x y. Some (test x y)) (number parents a s) (number parents b s))
    comparison_runs a b s tail ra rb size =
        let v = behind a t in
        let last = jump_code (jump (register_of a t) (register_of b v)) sense label k in
        let behind_a = operand_code b v f last in
        let long : length k ≤ length behind_a = tail_length (tail_further (operand_tail b v f last) (tail_of_stretch (jump_stretch (jump (register_of a t) (register_of b v)) (jumps.kinds (register_of a t) (register_of b v)) sense label k))) in
        let ends = operand_runs parents ready fs a t f behind_a s tail (omega arith) (further_in c fs (length k) (length behind_a) long inside) ra size in
        then_second a b s (tail_further tail (operand_tail a t f behind_a)) ra rb (from_label c parents fs (length (operand_code a t f behind_a)) s) (number parents a s) ends

  less : Jumps parents (λ x y l. I.JumpIfLess x y l) lt_z
  less = record { kinds = λ x y l. refl; acts = λ n x y l. refl; does = λ n x y l p s. refl }

  greater : Jumps parents (λ x y l. I.JumpIfLess y x l) (λ x y. lt_z y x)
  greater = record { kinds = λ x y l. refl; acts = λ n x y l. refl; does = λ n x y l p s. refl }

  equal : Jumps parents (λ x y l. I.JumpIfEqual x y l) int_eq
  equal = record { kinds = λ x y l. refl; acts = λ n x y l. refl; does = λ n x y l p s. refl }

  -- the negated condition leads to the same labels with `sense` negated
  turned : (sense : Bool) (label t f k : ℕ) (from : Run) (s : State) (b : Option Bool) → BranchEnds (not sense) label t f k from s b → BranchEnds sense label t f k from s (opposite b)
  turned sense label t f k from s None ends = ends
  turned true label t f k from s (Some true) ends = ends
  turned true label t f k from s (Some false) ends = ends
  turned false label t f k from s (Some true) ends = ends
  turned false label t f k from s (Some false) ends = ends

  -- after the first of two parts
  then_part : (sense : Bool) (label t f : ℕ) (k : List Instr) (d : Condition) (s : State) → BranchRuns d → Tail c (branch_code d sense label t f k) → f ≤ length k → label ≤ length k → IsInside c fs (length k)
      → IsTestable t (held_at s) d
      → (from : Run) (b : Option Bool) → BranchEnds false (if sense then length k else label) t f (length (branch_code d sense label t f k)) from s b
      → BranchEnds sense label t f (length k) from s (both_true b (truth parents d s))
  then_part sense label t f k d s second tail le le_label inside r from None ends = ends
  then_part true label t f k d s second tail le le_label inside r from (Some false) ends = ends
  then_part false label t f k d s second tail le le_label inside r from (Some false) ends = ends
  then_part sense label t f k d s second tail le le_label inside r from (Some true) ends =
      let u = ends.0 in
      let kept = ends.2 in
      let testable : IsTestable t (held_at u) d = subst (λ ns. IsTestable t (map is_some ns) d) (sym kept.nodes) r in
      from_there sense label t f (length k) from (length (branch_code d sense label t f k)) s u ends.1 kept (truth parents d s)
      (subst (BranchEnds sense label t f (length k) (from_label c parents fs (length (branch_code d sense label t f k)) u) u) (same_truth parents d t (held_at s) s u r kept)
      (second sense label t f k u tail le le_label inside testable kept.size))

  way_out : (sense : Bool) (label k l : ℕ) → k ≤ l → label ≤ k → (if sense then k else label) ≤ l
  way_out true label k l le le_label = le
  way_out false label k l le le_label = omega arith

  pub branch_runs : (d : Condition) → BranchRuns d
  branch_runs (C.Less a b) sense label t f k s tail le le_label inside r size =
      comparison_runs (λ x y l. I.JumpIfLess x y l) lt_z less sense label t f k le le_label inside a b s tail r.0 r.1 size
  branch_runs (C.Greater a b) sense label t f k s tail le le_label inside r size =
      comparison_runs (λ x y l. I.JumpIfLess y x l) (λ x y. lt_z y x) greater sense label t f k le le_label inside a b s tail r.0 r.1 size
  branch_runs (C.Equal a b) sense label t f k s tail le le_label inside r size =
      comparison_runs (λ x y l. I.JumpIfEqual x y l) int_eq equal sense label t f k le le_label inside a b s tail r.0 r.1 size
  branch_runs (C.Not' p d) sense label t f k s tail le le_label inside r size =
      turned sense label t f (length k) (from_label c parents fs (length (branch_code d (not sense) label t f k)) s) s (truth parents d s) (branch_runs d (not sense) label t f k s tail le le_label inside r size)
  branch_runs (C.And' p d q e) sense label t f k s tail le le_label inside r size =
      let rest = branch_code e sense label t f k in
      let long : length k ≤ length rest = tail_length (branch_tail e sense label t f k) in
      let first = branch_runs d false (if sense then length k else label) t f rest s tail (omega arith) (way_out sense label (length k) (length rest) long le_label) (further_in c fs (length k) (length rest) long inside) r.0 size in
      then_part sense label t f k e s (branch_runs e) (tail_further tail (branch_tail d false (if sense then length k else label) t f rest)) le le_label inside r.1 (from_label c parents fs (length (branch_code d false (if sense then length k else label) t f rest)) s) (truth parents d s) first
