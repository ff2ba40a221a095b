-- The code that frees registers frees those that the text's meaning frees.
use Rattle.std.proofs.Common.{◌≡◌, ◌≢◌, ℕ, zero, suc, ◌+◌, ◌-◌, ◌<◌, ◌≤◌, List, [], ◌∷◌, length, get_or, Bool, true, false, not, ◌&&◌, Option, Some, None, is_some, if◌then◌else◌, refl, sym, ap, ◌∙◌, subst, arith, ◌⊎◌, inl, inr}
use Rattle.std.specs.Prelude.{slice_set}
use Rattle.std.proofs.lemmas.List.{length-set, get_or-set_other}
use Rattle.std.proofs.lemmas.Bool.{cases_lt}
use Rattle.std.proofs.Math.Nat.{eq-or-lt_of_le}
use Rattle.tl_instr.specs.declared.operand.TheConstants.{NODE_REGISTERS}
use Rattle.tl_instr.specs.declared.instr.Instr.{Instr}
use Rattle.tl_instr.specs.declared.instr.Instr.TheVariants as I
use Rattle.tl_tree.specs.Records.{record_at}
use Rattle.tl_tree_locking.specs.declared.action.Action.TheVariants as did
use Rattle.tl_machine.specs.Runs.{State, Run, Held}
use Rattle.tl_machine.specs.Alone.{Step, effect, holding, node, with_node}
use Rattle.tl_machine.specs.Left.{Frame}
use Rattle.tl_lowering.specs.Sets.{Nodes, holds, both}
use Rattle.tl_compiler.specs.Statements.{release_below}
use Rattle.tl_meaning.specs.Meaning.{On, Done, plain, after_events, is_on, and_then, free, free_by, leave_below, leave, held_at}
use Rattle.tl_meaning.specs.Leading.{Leads, Runs, from_label, IsInside, Kept}
use Rattle.tl_compiler.specs.Tails.{Tail}
use Rattle.tl_meaning.proofs.Steps.{stays, and_on, further_in, goes_to_next}
use Rattle.tl_compiler.proofs.TailLemmas.{tail_further, tail_behind, tail_length}
use Rattle.tl_compiler.proofs.Stretches.{tail_of_stretch}
use Rattle.tl_compiler.proofs.SetLemmas.{all_held, holds_both, length_both}
use Rattle.tl_meaning.proofs.SetLemmas.{held_is, held_length}
use Rattle.tl_meaning.proofs.Leaving.{freed, others, goes_on, then_on}
use Rattle.tl_compiler.proofs.NumberStretches.{release_stretch}

-- control reaches a position at which all of this is done
pub record Does (code : List Instr) (parents : List ℕ) (frames : List Frame) (d on : ℕ) (from : Run) (done : Done) : Type 0 where
  pub state : State
  pub leads : Leads from done.events (from_label code parents frames on state)
  pub kept : Kept d done.state state
  pub goes_on : done.outcome ≡ On

pub kept_free : {d : ℕ} {s u : State} (n : ℕ) → Kept d s u → Kept d (with_node s n None) (with_node u n None)
kept_free n a = record { values = a.values; nodes = ap (λ ns. slice_set ns n None) a.nodes; records = a.records; size = a.size }

-- one register is freed
pub release_step : {c : List Instr} (parents : List ℕ) (ready : Runs c) (fs : List Frame) (n : ℕ) (k : List Instr) (d : ℕ) (s u : State) (h : Held) → node s n ≡ Some h → Tail c (I.Release n ∷ k) → IsInside c fs (length k) → Kept d s u
    → Leads (from_label c parents fs (suc (length k)) u) (did.Free h.node (record_at s.records h.node) ∷ []) (from_label c parents fs (length k) (with_node u n None))
release_step {c} parents ready fs n k d s u h e tail inside agrees =
    let p = length c - suc (length k) in
    let w = with_node u n None in
    let found : node u n ≡ Some h = ap (λ ns. get_or ns n None) agrees.nodes ∙ e in
    let step : Step = record { act = did.Free h.node (record_at s.records h.node); to = p + 1; state = w } in
    let by : effect parents (I.Release n) p u ≡ step =
    ap (λ o. holding p u o (λ (h : Held). record { act = did.Free h.node (record_at u.records h.node); to = p + 1; state = with_node u n None })) found
    ∙ ap (λ rs. let step : Step = record { act = did.Free h.node (record_at rs h.node); to = p + 1; state = w } in step) agrees.records in
    goes_to_next parents ready fs (I.Release n) k u w (did.Free h.node (record_at s.records h.node)) tail inside refl by

module _ {c : List Instr} (parents : List ℕ) (ready : Runs c) (fs : List Frame) (k : List Instr) (inside : IsInside c fs (length k)) (set kept : Nodes) (d : ℕ) where
  -- the registers of the set are those that hold a node and aren't kept
  abbrev pub Frees : ℕ → State → Type 0
  Frees n s = (i : ℕ) → i < n → holds set i ≡ is_some (node s i) && not (holds kept i)

  abbrev pub Below : ℕ → Type 0
  Below n = (s u : State) → Tail c (release_below n set k) → Kept d s u → Frees n s
      → Does c parents fs d (length k) (from_label c parents fs (length (release_below n set k)) u) (leave_below n kept s)

  freeing : (n : ℕ) → Below n → (s u : State) (h : Held) → node s n ≡ Some h → Tail c (I.Release n ∷ release_below n set k) → Kept d s u → Frees (suc n) s
      → Does c parents fs d (length k) (from_label c parents fs (suc (length (release_below n set k))) u) (and_then (free_by (Some h) n s) (leave_below n kept))
  freeing n rest s u h e tail agrees frees =
      let code = release_below n set k in
      let t = with_node s n None in
      let w = with_node u n None in
      let long : length k ≤ length code = tail_length (tail_of_stretch (release_stretch n set k)) in
      let first = release_step parents ready fs n code d s u h e tail (further_in c fs (length k) (length code) long inside) agrees in
      let frees_then : Frees n t = λ i lt.
      frees i (omega arith) ∙ ap (λ o. is_some o && not (holds kept i)) (sym (get_or-set_other s.nodes n i None None (λ e. absurd (omega (arith, e))))) in
      let more = rest t w (tail_further tail (tail_behind (I.Release n) code)) (kept_free n agrees) frees_then in
      record { state = more.state; leads = and_on first more.leads; kept = more.kept; goes_on = more.goes_on }

  abbrev code_by : ℕ → Bool → List Instr
  code_by n b = if b then I.Release n ∷ release_below n set k else release_below n set k

  at_register : (n : ℕ) → Below n → (s u : State) → Kept d s u → Frees (suc n) s → (o : Option Held) → node s n ≡ o → (kb sb : Bool) → sb ≡ is_some o && not kb → Tail c (code_by n sb)
      → Does c parents fs d (length k) (from_label c parents fs (length (code_by n sb)) u) (and_then (if kb then plain On s else free_by o n s) (leave_below n kept))
  at_register n rest s u agrees frees None e true true h tail = cc
  at_register n rest s u agrees frees None e true false h tail = rest s u tail agrees (λ i lt. frees i (omega arith))
  at_register n rest s u agrees frees None e false true h tail = cc
  at_register n rest s u agrees frees None e false false h tail = rest s u tail agrees (λ i lt. frees i (omega arith))
  at_register n rest s u agrees frees (Some x) e true true h tail = cc
  at_register n rest s u agrees frees (Some x) e true false h tail = rest s u tail agrees (λ i lt. frees i (omega arith))
  at_register n rest s u agrees frees (Some x) e false false h tail = cc
  at_register n rest s u agrees frees (Some x) e false true h tail = freeing n rest s u x e tail agrees frees

  pub below : (n : ℕ) → Below n
  below zero s u tail agrees frees = record { state = u; leads = stays (from_label c parents fs (length k) u); kept = agrees; goes_on = refl }
  below (suc n) s u tail agrees frees =
      at_register n (below n) s u agrees frees (node s n) refl (holds kept n) (holds set n) (frees n (omega arith)) tail

-- ---- what is held then

first : ℕ → Nodes → State → Done
first n kept s = if holds kept n then plain On s else free n s

first_on : (n : ℕ) (kept : Nodes) (s : State) → (first n kept s).outcome ≡ On
unfolding first
first_on n kept s = by (holds kept n)
  where
    by : (b : Bool) → (if b then plain On s else free n s).outcome ≡ On
    by true = refl
    by false = goes_on n s

pub and_true : (x : Bool) → x ≡ x && true
and_true true = refl
and_true false = refl

and_none : (x : Bool) → false ≡ x && false
and_none true = refl
and_none false = refl

first_here : (n : ℕ) (kept : Nodes) (s : State) → is_some (node (first n kept s).state n) ≡ is_some (node s n) && holds kept n
unfolding first
first_here n kept s = by (holds kept n)
  where
    by : (b : Bool) → is_some (node (if b then plain On s else free n s).state n) ≡ is_some (node s n) && b
    by true = and_true (is_some (node s n))
    by false = ap is_some (freed n s) ∙ and_none (is_some (node s n))

first_other : (n : ℕ) (kept : Nodes) (s : State) (i : ℕ) → i ≢ n → node (first n kept s).state i ≡ node s i
unfolding first
first_other n kept s i ne = by (holds kept n)
  where
    by : (b : Bool) → node (if b then plain On s else free n s).state i ≡ node s i
    by true = refl
    by false = others n i s ne

free_sizes : (o : Option Held) (n : ℕ) (s : State) → (length (free_by o n s).state.values ≡ length s.values) × (length (free_by o n s).state.nodes ≡ length s.nodes)
free_sizes None n s = (refl, refl)
free_sizes (Some h) n s = (refl, length-set s.nodes n None)

first_sizes : (n : ℕ) (kept : Nodes) (s : State) → (length (first n kept s).state.values ≡ length s.values) × (length (first n kept s).state.nodes ≡ length s.nodes)
unfolding first
first_sizes n kept s = by (holds kept n)
  where
    by : (b : Bool) → (length (if b then plain On s else free n s).state.values ≡ length s.values) × (length (if b then plain On s else free n s).state.nodes ≡ length s.nodes)
    by true = (refl, refl)
    by false = free_sizes (node s n) n s

further : (n : ℕ) (kept : Nodes) (s : State) → (leave_below (suc n) kept s).state ≡ (leave_below n kept (first n kept s).state).state
unfolding first
further n kept s = then_on (first n kept s) (leave_below n kept) (first_on n kept s)

above : (n : ℕ) (kept : Nodes) (s : State) (i : ℕ) → n ≤ i → node (leave_below n kept s).state i ≡ node s i
above zero kept s i le = refl
above (suc n) kept s i le =
    ap (λ (t : State). node t i) (further n kept s) ∙ above n kept (first n kept s).state i (omega arith) ∙ first_other n kept s i (λ e. absurd (omega (arith, e)))

kept_below : (n : ℕ) (kept : Nodes) (s : State) (i : ℕ) → i < n → is_some (node (leave_below n kept s).state i) ≡ is_some (node s i) && holds kept i
kept_below zero kept s i lt = absurd (omega arith)
kept_below (suc n) kept s i lt = ap (λ (t : State). is_some (node t i)) (further n kept s) ∙ by (eq-or-lt_of_le (omega arith)) (λ h. kept_below n kept (first n kept s).state i h)
  where
    by : (i ≡ n) ⊎ (i < n) → (i < n → is_some (node (leave_below n kept (first n kept s).state).state i) ≡ is_some (node (first n kept s).state i) && holds kept i)
        → is_some (node (leave_below n kept (first n kept s).state).state i) ≡ is_some (node s i) && holds kept i
    by (inl e) rest = ap is_some (above n kept (first n kept s).state i (omega (arith, e))) ∙ rw e (first_here n kept s)
    by (inr lt) rest = rest lt ∙ ap (λ o. is_some o && holds kept i) (first_other n kept s i (λ e. absurd (omega (arith, e))))

pub leave_on : (n : ℕ) (kept : Nodes) (s : State) → (leave_below n kept s).outcome ≡ On
unfolding first
leave_on zero kept s = refl
leave_on (suc n) kept s = by (first n kept s) (first_on n kept s) (leave_on n kept (first n kept s).state)
  where
    by : (d : Done) → d.outcome ≡ On → (leave_below n kept d.state).outcome ≡ On → (and_then d (leave_below n kept)).outcome ≡ On
    by d e f = ap (λ o. (if is_on o then after_events d.events (leave_below n kept d.state) else d).outcome) e ∙ f

pub leave_sizes : (n : ℕ) (kept : Nodes) (s : State) → (length (leave_below n kept s).state.values ≡ length s.values) × (length (leave_below n kept s).state.nodes ≡ length s.nodes)
leave_sizes zero kept s = (refl, refl)
leave_sizes (suc n) kept s =
    let a = leave_sizes n kept (first n kept s).state in
    let b = first_sizes n kept s in
    (ap (λ (t : State). length t.values) (further n kept s) ∙ a.0 ∙ b.0, ap (λ (t : State). length t.nodes) (further n kept s) ∙ a.1 ∙ b.1)

pub leave_records : (n : ℕ) (kept : Nodes) (s : State) → (leave_below n kept s).state.records ≡ s.records
unfolding first
leave_records zero kept s = refl
leave_records (suc n) kept s = ap (λ (t : State). t.records) (further n kept s) ∙ leave_records n kept (first n kept s).state ∙ by (holds kept n) (node s n)
  where
    by : (b : Bool) (o : Option Held) → (if b then plain On s else free_by o n s).state.records ≡ s.records
    by true o = refl
    by false None = refl
    by false (Some h) = refl

pub held_then : (kept : Nodes) (s : State) → length s.nodes ≡ NODE_REGISTERS → length kept ≡ NODE_REGISTERS → held_at (leave kept s).state ≡ both (held_at s) kept
held_then kept s size size_kept =
    let t = (leave kept s).state in
    let long : length (held_at t) ≡ NODE_REGISTERS = held_length t.nodes ∙ (leave_sizes NODE_REGISTERS kept s).1 ∙ size in
    let long_both : length (both (held_at s) kept) ≡ NODE_REGISTERS = length_both (held_at s) kept NODE_REGISTERS (held_length s.nodes ∙ size) size_kept in
    all_held (held_at t) (both (held_at s) kept) (long ∙ sym long_both)
    (λ i. held_is t.nodes i ∙ by i (cases_lt i NODE_REGISTERS) ∙ ap (λ b. b && holds kept i) (sym (held_is s.nodes i)) ∙ sym (holds_both (held_at s) kept i))
  where
    past : (xs : Nodes) (i : ℕ) → length xs ≤ i → holds xs i ≡ false
    past [] i le = refl
    past (x ∷ xs) zero le = absurd (omega arith)
    past (x ∷ xs) (suc i) le = past xs i (omega arith)

    by : (i : ℕ) → (i < NODE_REGISTERS) ⊎ (NODE_REGISTERS ≤ i) → is_some (node (leave kept s).state i) ≡ is_some (node s i) && holds kept i
    by i (inl lt) = kept_below NODE_REGISTERS kept s i lt
    by i (inr le) =
        ap is_some (above NODE_REGISTERS kept s i le)
        ∙ sym (held_is s.nodes i) ∙ past (held_at s) i (subst (λ n. n ≤ i) (sym (held_length s.nodes ∙ size)) le)
        ∙ and_none (is_some (node s i)) ∙ ap (λ b. is_some (node s i) && b) (sym (past kept i (subst (λ n. n ≤ i) (sym size_kept) le)))
