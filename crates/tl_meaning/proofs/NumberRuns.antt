-- The code of a number puts the number into its register, or goes to the label of a failure.
use Rattle.std.proofs.Common.{◌≡◌, ℕ, suc, ◌+◌, ◌-◌, ◌<◌, ◌≤◌, List, [], ◌∷◌, length, map, get_or, Option, Some, None, is_some, refl, sym, ap, ap₂, ◌∙◌, subst, arith}
use Rattle.std.specs.Prelude.{ℤ, pos}
use Rattle.std.proofs.lemmas.List.{get_or-set_same, get_or-set_other, length-set}
use Rattle.tl_instr.specs.declared.operand.TheConstants.{VALUE_REGISTERS}
use Rattle.tl_instr.specs.declared.instr.Instr.{Instr}
use Rattle.tl_instr.specs.declared.instr.Instr.TheVariants as I
use Rattle.tl_instr.specs.Instructions.{InRange}
use Rattle.tl_tree.specs.Records.{record_at}
use Rattle.tl_tree.specs.Shape.{kids}
use Rattle.tl_tree_locking.specs.declared.action.Action.TheVariants as did
use Rattle.tl_budget.specs.Loops.{Acts, kind}
use Rattle.tl_machine.specs.Runs.{State, Run, Held}
use Rattle.tl_machine.specs.Alone.{Step, effect, checked, holding, onward, value, with_value}
use Rattle.tl_machine.specs.Left.{Frame}
use Rattle.tl_machine.proofs.Slots.{held_by}
use Rattle.tl_syntax.specs.declared.operator.Operator.{Operator}
use Rattle.tl_syntax.specs.declared.operator.Operator.TheVariants as O
use Rattle.tl_lowering.specs.declared.program.Expression.{Expression}
use Rattle.tl_lowering.specs.declared.program.Expression.TheVariants as E
use Rattle.tl_compiler.specs.Aiming.{aimed}
use Rattle.tl_compiler.specs.Labels.{target_of}
use Rattle.tl_compiler.specs.Numbers.{register_of, behind, calculation, into_code, operand_code}
use Rattle.tl_lowering.specs.Sets.{Nodes}
use Rattle.tl_meaning.specs.Meaning.{result, with_both, of_node, number, held_at}
use Rattle.tl_meaning.specs.Leading.{Leads, Runs, from_label, IsInside, Kept, Given, NumberLeads}
use Rattle.tl_compiler.specs.Tails.{Tail}
use Rattle.tl_lowering.specs.Sound.{IsReadable}
use Rattle.tl_meaning.proofs.Steps.{stays, and_on, further_in, in_range, goes_to_next, goes_to_label}
use Rattle.tl_compiler.proofs.TailLemmas.{tail_further, tail_length}
use Rattle.tl_compiler.proofs.NumberStretches.{operand_tail}

-- ---- what numbers depend on

pub readable_further : (e : Expression) (t u : ℕ) (held : Nodes) → t ≤ u → IsReadable t held e → IsReadable u held e
readable_further (E.Constant w) t u held le r = tt
readable_further (E.Value x) t u held le r = omega arith
readable_further (E.Field n z) t u held le r = r
readable_further (E.Children n) t u held le r = r
readable_further (E.Calculated' o p a q b) t u held le r = (readable_further a t u held le r.0, readable_further b t u held le r.1)

pub same_number : (parents : List ℕ) (e : Expression) (t : ℕ) (held : Nodes) (s u : State) → IsReadable t held e → Kept t s u → number parents e u ≡ number parents e s
same_number parents (E.Constant w) t held s u r k = refl
same_number parents (E.Value x) t held s u r k = ap Some (k.values x r)
same_number parents (E.Field n z) t held s u r k =
    ap₂ (λ ns rs. of_node (get_or ns n None) (λ (h : Held). get_or (record_at rs h.node) z (pos 0))) k.nodes k.records
same_number parents (E.Children n) t held s u r k =
    ap (λ ns. of_node (get_or ns n None) (λ (h : Held). pos (length (kids parents h.node)))) k.nodes
same_number parents (E.Calculated' o p a q b) t held s u r k =
    ap₂ (with_both (result o)) (same_number parents a t held s u r.0 k) (same_number parents b t held s u r.1 k)

pub kept_all : (t : ℕ) (s : State) → length s.values ≡ VALUE_REGISTERS → Kept t s s
kept_all t s size = record { values = λ v lt. refl; nodes = refl; records = refl; size = size }

pub kept_on : {t u : ℕ} {a b c : State} → t ≤ u → Kept t a b → Kept u b c → Kept t a c
kept_on le k m = record {
  values = λ v lt. m.values v (omega arith) ∙ k.values v lt;
  nodes = m.nodes ∙ k.nodes;
  records = m.records ∙ k.records;
  size = m.size;
}

pub kept_below : {t u : ℕ} {a b : State} → t ≤ u → Kept u a b → Kept t a b
kept_below le k = record { values = λ v lt. k.values v (omega arith); nodes = k.nodes; records = k.records; size = k.size }

-- setting another register keeps the first t values
pub kept_given : {x : ℕ} {n : ℤ} {t : ℕ} {a b : State} → t ≤ x → Given x n t a b → Kept t a b
kept_given le g = record { values = λ v lt. g.values v lt (λ e. absurd (omega (arith, e))); nodes = g.nodes; records = g.records; size = g.size }

pub given : (x : ℕ) (n : ℤ) (t : ℕ) (s : State) → x < VALUE_REGISTERS → length s.values ≡ VALUE_REGISTERS → Given x n t s (with_value s x n)
given x n t s lt size = record {
  here = get_or-set_same s.values x n (pos 0) (rw size lt);
  values = λ v below ne. get_or-set_other s.values x v n (pos 0) ne;
  nodes = refl;
  records = refl;
  size = length-set s.values x n ∙ size;
}

pub given_on : {x : ℕ} {n : ℤ} {t u : ℕ} {a b c : State} → t ≤ u → Kept t a b → Given x n u b c → Given x n t a c
given_on le k g = record {
  here = g.here;
  values = λ v lt ne. g.values v (omega arith) ne ∙ k.values v lt;
  nodes = g.nodes ∙ k.nodes;
  records = g.records ∙ k.records;
  size = g.size;
}

-- the register of an operand has its number, and the first t values haven't changed
pub record Operand (e : Expression) (t : ℕ) (n : ℤ) (s u : State) : Type 0 where
  pub here : value u (register_of e t) ≡ n
  pub kept : Kept t s u

pub register_below : (e : Expression) (t : ℕ) (held : Nodes) → IsReadable t held e → register_of e t < behind e t
register_below (E.Constant w) t held r = omega arith
register_below (E.Value x) t held r = r
register_below (E.Field n z) t held r = omega arith
register_below (E.Children n) t held r = omega arith
register_below (E.Calculated' o p a q b) t held r = omega arith

pub behind_above : (e : Expression) (t : ℕ) → t ≤ behind e t
behind_above (E.Constant w) t = omega arith
behind_above (E.Value x) t = omega arith
behind_above (E.Field n z) t = omega arith
behind_above (E.Children n) t = omega arith
behind_above (E.Calculated' o p a q b) t = omega arith

-- ---- operations

calculates : (parents : List ℕ) (n : ℕ) (o : Operator) (x y z f p : ℕ) (s : State)
    → effect parents (aimed n (calculation o x y z f)) p s ≡ checked p x (n - target_of f) s (result o (value s y) (value s z))
calculates parents n O.Add x y z f p s = refl
calculates parents n O.Subtract x y z f p s = refl
calculates parents n O.Multiply x y z f p s = refl
calculates parents n O.Divide x y z f p s = refl

calculation_acts : (n : ℕ) (o : Operator) (x y z f : ℕ) → kind (aimed n (calculation o x y z f)) ≡ Acts
calculation_acts n O.Add x y z f = refl
calculation_acts n O.Subtract x y z f = refl
calculation_acts n O.Multiply x y z f = refl
calculation_acts n O.Divide x y z f = refl

calculation_range : (n : ℕ) (o : Operator) (x y z f : ℕ) → InRange (aimed n (calculation o x y z f)) → x < VALUE_REGISTERS
calculation_range n O.Add x y z f r = r.0
calculation_range n O.Subtract x y z f r = r.0
calculation_range n O.Multiply x y z f r = r.0
calculation_range n O.Divide x y z f r = r.0

pub into_range : {c : List Instr} (parents : List ℕ) (ready : Runs c) (e : Expression) (x t f : ℕ) (k : List Instr) → Tail c (into_code e x t f k) → x < VALUE_REGISTERS
into_range parents ready (E.Constant w) x t f k tail = (in_range parents ready (I.Set x w) k tail).0
into_range parents ready (E.Value y) x t f k tail = (in_range parents ready (I.Copy x y) k tail).0
into_range parents ready (E.Field n z) x t f k tail = (in_range parents ready (I.Get x n z) k tail).0
into_range parents ready (E.Children n) x t f k tail = (in_range parents ready (I.Kids x n) k tail).0
into_range {c} parents ready (E.Calculated' o p a q b) x t f k tail =
    let i = calculation o x (register_of a t) (register_of b (behind a t)) f in
    let rest = operand_code b (behind a t) f (i ∷ k) in
    calculation_range (length c) o x (register_of a t) (register_of b (behind a t)) f
    (in_range parents ready i k (tail_further (tail_further tail (operand_tail a t f rest)) (operand_tail b (behind a t) f (i ∷ k))))

module _ {c : List Instr} (parents : List ℕ) (ready : Runs c) (fs : List Frame) where
  -- where the code of a number in front of k leads, from this run and state
  abbrev pub IntoEnds : ℕ → ℕ → ℕ → List Instr → Run → State → Option ℤ → Type 0
  IntoEnds x t f k from s n = NumberLeads c parents fs x t f (length k) from s n

  abbrev pub IntoRuns : Expression → Type 0
  IntoRuns e = (x t f : ℕ) (k : List Instr) (s : State) → Tail c (into_code e x t f k) → f ≤ length k → IsInside c fs (length k)
      → IsReadable t (held_at s) e → length s.values ≡ VALUE_REGISTERS
      → IntoEnds x t f k (from_label c parents fs (length (into_code e x t f k)) s) s (number parents e s)

  abbrev pub OperandEnds : Expression → ℕ → ℕ → List Instr → Run → State → Option ℤ → Type 0
  OperandEnds e t f k from s None = (u : State) × Leads from [] (from_label c parents fs f u) × Kept t s u
  OperandEnds e t f k from s (Some n) = (u : State) × Leads from [] (from_label c parents fs (length k) u) × Operand e t n s u

  abbrev pub OperandRuns : Expression → Type 0
  OperandRuns e = (t f : ℕ) (k : List Instr) (s : State) → Tail c (operand_code e t f k) → f ≤ length k → IsInside c fs (length k)
      → IsReadable t (held_at s) e → length s.values ≡ VALUE_REGISTERS
      → OperandEnds e t f k (from_label c parents fs (length (operand_code e t f k)) s) s (number parents e s)

  as_operand : (e : Expression) (t f : ℕ) (k : List Instr) (from : Run) (s : State) → register_of e t ≡ t → (o : Option ℤ) → IntoEnds t t f k from s o → OperandEnds e t f k from s o
  as_operand e t f k from s own None ends = ends
  as_operand e t f k from s own (Some n) ends =
      (ends.0, ends.1, record { here = rw own (ends.2).here; kept = kept_given (omega arith) ends.2 })

  operand_from : (e : Expression) → IntoRuns e → OperandRuns e
  operand_from (E.Constant w) into t f k s tail le inside r size = as_operand (E.Constant w) t f k (from_label c parents fs (length (into_code (E.Constant w) t t f k)) s) s refl (number parents (E.Constant w) s) (into t t f k s tail le inside r size)
  operand_from (E.Value y) into t f k s tail le inside r size = (s, stays (from_label c parents fs (length k) s), record { here = refl; kept = kept_all t s size })
  operand_from (E.Field n z) into t f k s tail le inside r size = as_operand (E.Field n z) t f k (from_label c parents fs (length (into_code (E.Field n z) t t f k)) s) s refl (number parents (E.Field n z) s) (into t t f k s tail le inside r size)
  operand_from (E.Children n) into t f k s tail le inside r size = as_operand (E.Children n) t f k (from_label c parents fs (length (into_code (E.Children n) t t f k)) s) s refl (number parents (E.Children n) s) (into t t f k s tail le inside r size)
  operand_from (E.Calculated' o p a q b) into t f k s tail le inside r size =
      as_operand (E.Calculated' o p a q b) t f k (from_label c parents fs (length (into_code (E.Calculated' o p a q b) t t f k)) s) s refl (number parents (E.Calculated' o p a q b) s) (into t t f k s tail le inside r size)

  last_by : (o : Operator) (x y z t f : ℕ) (k : List Instr) (s : State) → Tail c (calculation o x y z f ∷ k) → f ≤ length k → IsInside c fs (length k) → length s.values ≡ VALUE_REGISTERS
      → (n : Option ℤ) → result o (value s y) (value s z) ≡ n
      → IntoEnds x t f k (from_label c parents fs (suc (length k)) s) s n
  last_by o x y z t f k s tail le inside size None e = (
    s,
    goes_to_label parents ready fs (calculation o x y z f) k s s did.Plain f tail inside (calculation_acts (length c) o x y z f) le
        (calculates parents (length c) o x y z f _ s ∙ ap (checked _ x (length c - target_of f) s) e),
    kept_all t s size,
  )
  last_by o x y z t f k s tail le inside size (Some n) e = (
    with_value s x n,
    goes_to_next parents ready fs (calculation o x y z f) k s (with_value s x n) did.Plain tail inside (calculation_acts (length c) o x y z f)
        (calculates parents (length c) o x y z f _ s ∙ ap (checked _ x (length c - target_of f) s) e),
    given x n t s (calculation_range (length c) o x y z f (in_range parents ready (calculation o x y z f) k tail)) size,
  )

  -- the code goes on from a position that other code has reached
  from_there : (x t f : ℕ) (k : List Instr) (from : Run) (label : ℕ) (s u : State) → Leads from [] (from_label c parents fs label u) → Kept t s u
      → (n : Option ℤ) → IntoEnds x t f k (from_label c parents fs label u) u n → IntoEnds x t f k from s n
  from_there x t f k from label s u leads kept None ends = (ends.0, and_on leads ends.1, kept_on (omega arith) kept ends.2)
  from_there x t f k from label s u leads kept (Some n) ends = (ends.0, and_on leads ends.1, given_on (omega arith) kept ends.2)

  -- after the second operand is computed
  then_last : (o : Operator) (x y t v f : ℕ) (b : Expression) (k : List Instr) (s : State) (m : ℤ) → Tail c (calculation o x y (register_of b v) f ∷ k) → f ≤ length k → IsInside c fs (length k)
      → t ≤ v → y < v → value s y ≡ m
      → (from : Run) (n : Option ℤ) → OperandEnds b v f (calculation o x y (register_of b v) f ∷ k) from s n
      → IntoEnds x t f k from s (with_both (result o) (Some m) n)
  then_last o x y t v f b k s m tail le inside above below is from None ends = (ends.0, ends.1, kept_below above ends.2)
  then_last o x y t v f b k s m tail le inside above below is from (Some n) ends =
      let w = ends.0 in
      let made = ends.2 in
      let z = register_of b v in
      let both : result o (value w y) (value w z) ≡ result o m n = ap₂ (result o) (made.kept.values y below ∙ is) made.here in
      from_there x t f k from (suc (length k)) s w ends.1 (kept_below above made.kept) (result o m n)
      (last_by o x y z t f k w tail le inside made.kept.size (result o m n) both)

  -- after the first operand is computed
  then_second : (o : Operator) (x t f : ℕ) (a b : Expression) (k : List Instr) (s : State) → OperandRuns b
      → Tail c (operand_code b (behind a t) f (calculation o x (register_of a t) (register_of b (behind a t)) f ∷ k)) → f ≤ length k → IsInside c fs (length k)
      → IsReadable t (held_at s) a → IsReadable t (held_at s) b
      → (from : Run) (m : Option ℤ) → OperandEnds a t f (operand_code b (behind a t) f (calculation o x (register_of a t) (register_of b (behind a t)) f ∷ k)) from s m
      → IntoEnds x t f k from s (with_both (result o) m (number parents b s))
  then_second o x t f a b k s second tail le inside ra rb from None ends = ends
  then_second o x t f a b k s second tail le inside ra rb from (Some m) ends =
      let u = ends.0 in
      let made = ends.2 in
      let v = behind a t in
      let y = register_of a t in
      let last = calculation o x y (register_of b v) f ∷ k in
      let above = behind_above a t in
      let readable : IsReadable v (held_at u) b =
      subst (λ ns. IsReadable v (map is_some ns) b) (sym made.kept.nodes) (readable_further b t v (held_at s) above rb) in
      let then_tail : Tail c last = tail_further tail (operand_tail b v f last) in
      let ends_b = second v f last u tail (omega arith) (further_in c fs (length k) (suc (length k)) (omega arith) inside) readable made.kept.size in
      let done : IntoEnds x t f k (from_label c parents fs (length (operand_code b v f last)) u) u (with_both (result o) (Some m) (number parents b u)) =
      then_last o x y t v f b k u m then_tail le inside above (register_below a t (held_at s) ra) made.here (from_label c parents fs (length (operand_code b v f last)) u) (number parents b u) ends_b in
      from_there x t f k from (length (operand_code b v f last)) s u ends.1 made.kept (with_both (result o) (Some m) (number parents b s))
      (subst (λ n. IntoEnds x t f k (from_label c parents fs (length (operand_code b v f last)) u) u (with_both (result o) (Some m) n)) (same_number parents b t (held_at s) s u rb made.kept) done)

  calculated_from : (o : Operator) (a b : Expression) → OperandRuns a → OperandRuns b → (x t f : ℕ) (k : List Instr) (s : State)
      → Tail c (operand_code a t f (operand_code b (behind a t) f (calculation o x (register_of a t) (register_of b (behind a t)) f ∷ k))) → f ≤ length k → IsInside c fs (length k)
      → IsReadable t (held_at s) a → IsReadable t (held_at s) b → length s.values ≡ VALUE_REGISTERS
      → IntoEnds x t f k (from_label c parents fs (length (operand_code a t f (operand_code b (behind a t) f (calculation o x (register_of a t) (register_of b (behind a t)) f ∷ k)))) s) s
      (with_both (result o) (number parents a s) (number parents b s))
  calculated_from o a b first second x t f k s tail le inside ra rb size =
      let v = behind a t in
      let last = calculation o x (register_of a t) (register_of b v) f ∷ k in
      let behind_a = operand_code b v f last in
      let short : suc (length k) ≤ length behind_a = tail_length (operand_tail b v f last) in
      let ends = first t f behind_a s tail (omega arith) (further_in c fs (length k) (length behind_a) (omega arith) inside) ra size in
      then_second o x t f a b k s second (tail_further tail (operand_tail a t f behind_a)) le inside ra rb (from_label c parents fs (length (operand_code a t f behind_a)) s) (number parents a s) ends

  pub into_runs : (e : Expression) → IntoRuns e
  into_runs (E.Constant w) x t f k s tail le inside r size = (
    with_value s x w,
    goes_to_next parents ready fs (I.Set x w) k s (with_value s x w) did.Plain tail inside refl refl,
    given x w t s (in_range parents ready (I.Set x w) k tail).0 size,
  )
  into_runs (E.Value y) x t f k s tail le inside r size = (
    with_value s x (value s y),
    goes_to_next parents ready fs (I.Copy x y) k s (with_value s x (value s y)) did.Plain tail inside refl refl,
    given x (value s y) t s (in_range parents ready (I.Copy x y) k tail).0 size,
  )
  into_runs (E.Field n z) x t f k s tail le inside r size =
      let h = held_by s.nodes n r in
      let m = get_or (record_at s.records (h.0).node) z (pos 0) in
      let step : Step = record { act = did.Read (h.0).node z m; to = length c - suc (length k) + 1; state = with_value s x m } in
      let by : effect parents (I.Get x n z) (length c - suc (length k)) s ≡ step =
      ap (λ o. holding (length c - suc (length k)) s o (λ (h : Held).
      let x' = get_or (record_at s.records h.node) z (pos 0) in
      record { act = did.Read h.node z x'; to = length c - suc (length k) + 1; state = with_value s x x' })) h.1 in
      let ends : IntoEnds x t f k (from_label c parents fs (suc (length k)) s) s (Some m) = (
        with_value s x m,
        goes_to_next parents ready fs (I.Get x n z) k s (with_value s x m) (did.Read (h.0).node z m) tail inside refl by,
        given x m t s (in_range parents ready (I.Get x n z) k tail).0 size,
      ) in
      subst (λ o. IntoEnds x t f k (from_label c parents fs (suc (length k)) s) s (of_node o (λ (h : Held). get_or (record_at s.records h.node) z (pos 0)))) (sym h.1) ends
  into_runs (E.Children n) x t f k s tail le inside r size =
      let h = held_by s.nodes n r in
      let m = pos (length (kids parents (h.0).node)) in
      let by : effect parents (I.Kids x n) (length c - suc (length k)) s ≡ onward (length c - suc (length k) + 1) (with_value s x m) =
      ap (λ o. holding (length c - suc (length k)) s o (λ (h : Held).
      onward (length c - suc (length k) + 1) (with_value s x (pos (length (kids parents h.node)))))) h.1 in
      let ends : IntoEnds x t f k (from_label c parents fs (suc (length k)) s) s (Some m) = (
        with_value s x m,
        goes_to_next parents ready fs (I.Kids x n) k s (with_value s x m) did.Plain tail inside refl by,
        given x m t s (in_range parents ready (I.Kids x n) k tail).0 size,
      ) in
      subst (λ o. IntoEnds x t f k (from_label c parents fs (suc (length k)) s) s (of_node o (λ (h : Held). pos (length (kids parents h.node))))) (sym h.1) ends
  into_runs (E.Calculated' o p a q b) x t f k s tail le inside r size =
      calculated_from o a b (operand_from a (into_runs a)) (operand_from b (into_runs b)) x t f k s tail le inside r.0 r.1 size

  pub operand_runs : (e : Expression) → OperandRuns e
  operand_runs e = operand_from e (into_runs e)
