-- The code of a place locks it, or goes to the label of its failure.
use Rattle.std.proofs.Common.{◌≡◌, ℕ, zero, suc, ◌+◌, ◌-◌, ◌≤◌, List, [], ◌∷◌, length, get_or, Bool, true, Option, Some, None, refl, sym, ap, ◌∙◌, subst, arith}
use Rattle.std.specs.Prelude.{slice_set, slice_index, ℤ}
use Rattle.std.proofs.lemmas.List.{length-set}
use Rattle.tl_instr.specs.declared.instr.Instr.{Instr}
use Rattle.tl_instr.specs.declared.instr.Instr.TheVariants as I
use Rattle.tl_tree.specs.Records.{Records, record_at}
use Rattle.tl_tree.specs.Shape.{kids}
use Rattle.tl_tree_locking.specs.declared.action.Action.{Action}
use Rattle.tl_tree_locking.specs.declared.action.Action.TheVariants as did
use Rattle.tl_machine.specs.Runs.{State, Run, Held}
use Rattle.tl_machine.specs.Alone.{Step, holding, first, child, numbered, open_kid, value, node, with_node}
use Rattle.tl_machine.specs.Left.{Frame}
use Rattle.tl_machine.proofs.Slots.{held_by}
use Rattle.tl_lowering.specs.declared.program.Expression.{Expression}
use Rattle.tl_lowering.specs.declared.program.Place.TheVariants as P
use Rattle.tl_compiler.specs.Labels.{target_of}
use Rattle.tl_compiler.specs.Numbers.{register_of, operand_code}
use Rattle.tl_lowering.specs.Sets.{Nodes, holds, with_node as also}
use Rattle.tl_lowering.specs.Outcomes.{locked}
use Rattle.tl_compiler.specs.Statements.{place_code}
use Rattle.tl_meaning.specs.Meaning.{Ending, On, Breaks, Fails, Returns, Done, given, number, lock_node, lock_kid, lock_child_by, lock_child, lock_place}
use Rattle.tl_meaning.specs.Leading.{Leads, Runs, from_label, IsInside}
use Rattle.tl_compiler.specs.Tails.{Tail}
use Rattle.tl_lowering.specs.Sound.{IsReadable}
use Rattle.tl_meaning.specs.Endings.{Mirrors}
use Rattle.tl_meaning.proofs.Steps.{and_on, further_in, goes_to_next, goes_to_label}
use Rattle.tl_compiler.proofs.TailLemmas.{tail_further}
use Rattle.tl_meaning.proofs.NumberRuns.{OperandEnds, operand_runs}
use Rattle.tl_compiler.proofs.NumberStretches.{operand_tail}
use Rattle.tl_meaning.proofs.SetLemmas.{held_set}
use Rattle.tl_meaning.proofs.StatementRuns.{agrees_kept, readable_there, number_there}

-- a register that holds a node still holds one, and an empty one is still empty
pub held_again : (l : Nodes) (n : ℕ) {b : Bool} → holds l n ≡ b → slice_set l n b ≡ l
held_again [] n e = refl
held_again (x ∷ l) zero e = ap (λ b. b ∷ l) (sym e)
held_again (x ∷ l) (suc n) e = ap (λ l. x ∷ l) (held_again l n e)

pub agrees_lock : {d : ℕ} {h : Nodes} {s u : State} (n y : ℕ) → Mirrors d h s u → Mirrors d (also h n) (with_node s n (Some (record { node = y; cursor = 0 }))) (with_node u n (Some (record { node = y; cursor = 0 })))
agrees_lock {d} {h} {s} {u} n y a =
    let o : Option Held = Some (record { node = y; cursor = 0 }) in
    record {
      kept = record { values = a.kept.values; nodes = ap (λ ns. slice_set ns n o) a.kept.nodes; records = a.kept.records; size = a.kept.size };
      values = a.values;
      nodes = length-set s.nodes n o ∙ a.nodes;
      held = held_set s.nodes n o ∙ ap (λ l. slice_set l n true) a.held;
    }

pub agrees_cursor : {d : ℕ} {h : Nodes} {s u : State} (p : ℕ) (g : Held) → holds h p ≡ true → Mirrors d h s u → Mirrors d h (with_node s p (Some g)) (with_node u p (Some g))
agrees_cursor {d} {h} {s} {u} p g is a = record {
  kept = record { values = a.kept.values; nodes = ap (λ ns. slice_set ns p (Some g)) a.kept.nodes; records = a.kept.records; size = a.kept.size };
  values = a.values;
  nodes = length-set s.nodes p (Some g) ∙ a.nodes;
  held = held_set s.nodes p (Some g) ∙ ap (λ l. slice_set l p true) a.held ∙ held_again h p is;
}

module _ {c : List Instr} (parents : List ℕ) (ready : Runs c) (fs : List Frame) where
  -- where the code of a place in front of a label leads: to that label, or to the label of its failure
  abbrev pub PlaceLeads : ℕ → Nodes → Nodes → ℕ → ℕ → Run → Ending → State → List Action → Type 0
  PlaceLeads d held locked f on from On s events = (u : State) × Leads from events (from_label c parents fs on u) × Mirrors d locked s u
  PlaceLeads d held locked f on from Fails s events = (u : State) × Leads from events (from_label c parents fs f u) × Mirrors d held s u
  PlaceLeads d held locked f on from Breaks s events = ⊥
  PlaceLeads d held locked f on from Returns s events = ⊥

  -- the same, and the registers have these values
  abbrev pub KidLeads : List ℤ → ℕ → Nodes → Nodes → ℕ → ℕ → Run → Ending → State → List Action → Type 0
  KidLeads vs d held locked f on from On s events = (u : State) × Leads from events (from_label c parents fs on u) × Mirrors d locked s u × (u.values ≡ vs)
  KidLeads vs d held locked f on from Fails s events = (u : State) × Leads from events (from_label c parents fs f u) × Mirrors d held s u × (u.values ≡ vs)
  KidLeads vs d held locked f on from Breaks s events = ⊥
  KidLeads vs d held locked f on from Returns s events = ⊥

  only_place : (vs : List ℤ) (d : ℕ) (held locked : Nodes) (f on : ℕ) (from : Run) (o : Ending) (s : State) (events : List Action) → KidLeads vs d held locked f on from o s events → PlaceLeads d held locked f on from o s events
  only_place vs d held locked f on from On s events l = (l.0, l.1, l.2)
  only_place vs d held locked f on from Fails s events l = (l.0, l.1, l.2)
  only_place vs d held locked f on from Breaks s events l = l
  only_place vs d held locked f on from Returns s events l = l

  -- a node given by its number
  first_runs : (n r f d : ℕ) (held : Nodes) (k : List Instr) (s u : State) (v : ℤ) → Tail c (I.First n r (target_of f) ∷ k) → f ≤ length k → IsInside c fs (length k) → Mirrors d held s u → value u r ≡ v
      → let done = lock_node n (numbered (length parents) v) s in PlaceLeads d held (also held n) f (length k) (from_label c parents fs (suc (length k)) u) done.outcome done.state done.events
  first_runs n r f d held k s u v tail le inside agrees is = by (numbered (length parents) v) refl
    where
      by : (o : Option ℕ) → numbered (length parents) v ≡ o → PlaceLeads d held (also held n) f (length k) (from_label c parents fs (suc (length k)) u) (lock_node n o s).outcome (lock_node n o s).state (lock_node n o s).events
      by None e = (
        u,
        goes_to_label parents ready fs (I.First n r (target_of f)) k u u did.Plain f tail inside refl le
            (ap (λ w. first (length c - suc (length k)) n (length c - target_of f) u (numbered (length parents) w)) is ∙ ap (first (length c - suc (length k)) n (length c - target_of f) u) e),
        agrees,
      )
      by (Some y) e =
          let w = with_node u n (Some (record { node = y; cursor = 0 })) in
          let step = λ (rs : Records). let t : Step = record { act = did.Lock y (record_at rs y); to = length c - suc (length k) + 1; state = w } in t in (
            w,
            goes_to_next parents ready fs (I.First n r (target_of f)) k u w (did.Lock y (record_at s.records y)) tail inside refl
                (ap (λ w. first (length c - suc (length k)) n (length c - target_of f) u (numbered (length parents) w)) is ∙ ap (first (length c - suc (length k)) n (length c - target_of f) u) e ∙ ap step agrees.kept.records),
            agrees_lock n y agrees,
          )

  -- a child given by its number
  pub child_runs : (n q r f d : ℕ) (held : Nodes) (k : List Instr) (s u : State) (v : ℤ) → Tail c (I.Child n q r (target_of f) ∷ k) → f ≤ length k → IsInside c fs (length k) → holds held q ≡ true → Mirrors d held s u → value u r ≡ v
      → KidLeads u.values d held (also held n) f (length k) (from_label c parents fs (suc (length k)) u) (lock_child parents n q v s).outcome (lock_child parents n q v s).state (lock_child parents n q v s).events
  child_runs n q r f d held k s u v tail le inside is_held agrees is =
      let h = held_by s.nodes q (subst (λ l. holds l q ≡ true) (sym agrees.held) is_held) in
      subst (λ o. KidLeads u.values d held (also held n) f (length k) (from_label c parents fs (suc (length k)) u) (lock_child_by parents n q o v s).outcome (lock_child_by parents n q o v s).state (lock_child_by parents n q o v s).events) (sym h.1)
      (by h.0 h.1 (open_kid (h.0).cursor (length (kids parents (h.0).node)) v) refl)
    where
      by : (h : Held) → node s q ≡ Some h → (o : Option ℕ) → open_kid h.cursor (length (kids parents h.node)) v ≡ o
          → KidLeads u.values d held (also held n) f (length k) (from_label c parents fs (suc (length k)) u) (lock_kid parents n q h o s).outcome (lock_kid parents n q h o s).state (lock_kid parents n q h o s).events
      by h e None f' =
          let there : node u q ≡ Some h = ap (λ ns. get_or ns q None) agrees.kept.nodes ∙ e in
          let p = length c - suc (length k) in (
            u,
            goes_to_label parents ready fs (I.Child n q r (target_of f)) k u u did.Plain f tail inside refl le
                (ap (λ o. holding p u o (λ (h : Held). child parents p n q h (length c - target_of f) u (open_kid h.cursor (length (kids parents h.node)) (value u r)))) there
                ∙ ap (λ w. child parents p n q h (length c - target_of f) u (open_kid h.cursor (length (kids parents h.node)) w)) is ∙ ap (child parents p n q h (length c - target_of f) u) f'),
            agrees,
            refl,
          )
      by h e (Some i) f' =
          let there : node u q ≡ Some h = ap (λ ns. get_or ns q None) agrees.kept.nodes ∙ e in
          let p = length c - suc (length k) in
          let g : Held = record { node = h.node; cursor = i + 1 } in
          let y = slice_index (kids parents h.node) i in
          let w = with_node (with_node u q (Some g)) n (Some (record { node = y; cursor = 0 })) in
          let step = λ (rs : Records). let t : Step = record { act = did.Lock y (record_at rs y); to = p + 1; state = w } in t in (
            w,
            goes_to_next parents ready fs (I.Child n q r (target_of f)) k u w (did.Lock y (record_at s.records y)) tail inside refl
                (ap (λ o. holding p u o (λ (h : Held). child parents p n q h (length c - target_of f) u (open_kid h.cursor (length (kids parents h.node)) (value u r)))) there
                ∙ ap (λ w. child parents p n q h (length c - target_of f) u (open_kid h.cursor (length (kids parents h.node)) w)) is ∙ ap (child parents p n q h (length c - target_of f) u) f' ∙ ap step agrees.kept.records),
            agrees_lock n y (agrees_cursor q g is_held agrees),
            refl,
          )

  prefixed_place : (d : ℕ) (held locked : Nodes) (f on : ℕ) (from there : Run) → Leads from [] there → (o : Ending) (s : State) (events : List Action) → PlaceLeads d held locked f on there o s events → PlaceLeads d held locked f on from o s events
  prefixed_place d held locked f on from there leads On s events l = (l.0, and_on leads l.1, l.2)
  prefixed_place d held locked f on from there leads Fails s events l = (l.0, and_on leads l.1, l.2)
  prefixed_place d held locked f on from there leads Breaks s events l = l
  prefixed_place d held locked f on from there leads Returns s events l = l

  -- a place that is given by one number
  by_number : (e : Expression) (d f : ℕ) (held locked : Nodes) (i : Instr) (k : List Instr) (s u : State) → Tail c (operand_code e d f (i ∷ k)) → f ≤ length k → IsInside c fs (length k) → IsReadable d held e → Mirrors d held s u
      → (go : ℤ → Done)
      → ((v : ℤ) (w : State) → value w (register_of e d) ≡ v → Mirrors d held s w → PlaceLeads d held locked f (length k) (from_label c parents fs (suc (length k)) w) (go v).outcome (go v).state (go v).events)
      → PlaceLeads d held locked f (length k) (from_label c parents fs (length (operand_code e d f (i ∷ k))) u) (given (number parents e s) s go).outcome (given (number parents e s) s go).state (given (number parents e s) s go).events
  by_number e d f held locked i k s u tail le inside readable agrees go found =
      by (number parents e s)
      (subst (OperandEnds parents ready fs e d f (i ∷ k) (from_label c parents fs (length (operand_code e d f (i ∷ k))) u) u) (number_there parents e agrees readable)
      (operand_runs parents ready fs e d f (i ∷ k) u tail (omega arith) (further_in c fs (length k) (suc (length k)) (omega arith) inside) (readable_there e agrees readable) agrees.kept.size))
    where
      by : (n : Option ℤ) → OperandEnds parents ready fs e d f (i ∷ k) (from_label c parents fs (length (operand_code e d f (i ∷ k))) u) u n
          → PlaceLeads d held locked f (length k) (from_label c parents fs (length (operand_code e d f (i ∷ k))) u) (given n s go).outcome (given n s go).state (given n s go).events
      by None l = (l.0, l.1, agrees_kept agrees l.2)
      by (Some v) l =
          prefixed_place d held locked f (length k) (from_label c parents fs (length (operand_code e d f (i ∷ k))) u) (from_label c parents fs (suc (length k)) l.0) l.1 (go v).outcome (go v).state (go v).events
          (found v l.0 (l.2).here (agrees_kept agrees (l.2).kept))

  pub node_runs : (n : ℕ) (e : Expression) (d f : ℕ) (held : Nodes) (k : List Instr) (s u : State) → Tail c (place_code (P.Node n e) d f k) → f ≤ length k → IsInside c fs (length k) → IsReadable d held e → Mirrors d held s u
      → PlaceLeads d held (also held n) f (length k) (from_label c parents fs (length (place_code (P.Node n e) d f k)) u) (lock_place parents (P.Node n e) s).outcome (lock_place parents (P.Node n e) s).state (lock_place parents (P.Node n e) s).events
  node_runs n e d f held k s u tail le inside readable agrees =
      let i = I.First n (register_of e d) (target_of f) in
      by_number e d f held (also held n) i k s u tail le inside readable agrees (λ v. lock_node n (numbered (length parents) v) s)
      (λ v w is agrees_then. first_runs n (register_of e d) f d held k s w v (tail_further tail (operand_tail e d f (i ∷ k))) le inside agrees_then is)

  pub kid_runs : (n q : ℕ) (e : Expression) (d f : ℕ) (held : Nodes) (k : List Instr) (s u : State) → Tail c (place_code (P.Child n q e) d f k) → f ≤ length k → IsInside c fs (length k) → holds held q ≡ true → IsReadable d held e → Mirrors d held s u
      → PlaceLeads d held (also held n) f (length k) (from_label c parents fs (length (place_code (P.Child n q e) d f k)) u) (lock_place parents (P.Child n q e) s).outcome (lock_place parents (P.Child n q e) s).state (lock_place parents (P.Child n q e) s).events
  kid_runs n q e d f held k s u tail le inside is_held readable agrees =
      let i = I.Child n q (register_of e d) (target_of f) in
      by_number e d f held (also held n) i k s u tail le inside readable agrees (λ v. lock_child parents n q v s)
      (λ v w is agrees_then.
      let done = lock_child parents n q v s in
      only_place w.values d held (also held n) f (length k) (from_label c parents fs (suc (length k)) w) done.outcome done.state done.events
      (child_runs n q (register_of e d) f d held k s w v (tail_further tail (operand_tail e d f (i ∷ k))) le inside is_held agrees_then is))
