-- The events of a sound world.
use Rattle.std.proofs.Common.{◌≡◌, ℕ, ◌<◌, true, false, List, [], ◌∷◌, length, refl, ap, ◌∙◌, subst, inl, inr, arith, ℤ}
use Rattle.std.proofs.lemmas.Bool.{cases_eq, cases_lt, both_ways, eq-eqb, ne_eqb}
use Rattle.std.proofs.lemmas.List.Elements.{All-cons}
use Rattle.std.specs.Prelude.{All}
use Rattle.tl_tree_locking.specs.declared.action.Action.TheVariants as A
use Rattle.tl_tree_locking.specs.declared.event.Event.{Event}
use Rattle.tl_tree_locking.specs.declared.event.Event.TheVariants.{Admit, Lock, Free, Done}
use Rattle.tl_tree_locking.specs.Actions.{locked, locked_any, EachPermitted}
use Rattle.tl_tree_locking.specs.History.{part_of, admits, IsLegalHistory}
use Rattle.tl_tree_locking.specs.Order.{stands, Agrees}
use Rattle.tl_tree_locking.specs.World.{World, IsSound}
use Rattle.tl_tree_locking.proofs.MayComeLemmas.{held-locked}
use Rattle.tl_tree_locking.proofs.PartLemmas.{part_of-lock, part_of-free, locked-free, locked-done, legal_before}
use Rattle.tl_tree_locking.proofs.ReachedWorlds.{unadmitted_done}
use Rattle.tl_tree_locking.proofs.NoStandstill.{sound_history}
use Rattle.tl_tree_locking.proofs.WorldSteps.{part_inside, unadmitted}
use Rattle.tl_tree_locking.specs.Nodes.{IsOfNodes}

-- a call that has locked a node has also locked it after another lock
locked_still : (d x : ℕ) (found : List ℤ) (past : List Event) (c y : ℕ) → locked (part_of c past) y ≡ true → locked (part_of c (Lock x d found ∷ past)) y ≡ true
locked_still d x found past c y l = elim (cases_eq d c) [
  | inl same ↦ let e = eq-eqb d c same in grind (arith, e, l)
  | inr other ↦ let e = ne_eqb d c other in grind (arith, e, l)
]

-- if calls lock only the first `nodes` nodes, each event refers to these
events_inside : (parents : List ℕ) (nodes : ℕ) (past : List Event) → IsLegalHistory parents past
    → ((c x : ℕ) → locked (part_of c past) x ≡ true → x < nodes) → All (IsOfNodes nodes) past
events_inside parents nodes [] legal inside = λ k d h. absurd (omega arith)
events_inside parents nodes (Admit c ∷ past) legal inside =
    All-cons (IsOfNodes nodes) (Admit c) past tt (events_inside parents nodes past (legal_before parents (Admit c) past legal) inside)
events_inside parents nodes (Lock x c found ∷ past) legal inside =
    let self = eq-eqb x x refl in
    let own : locked (part_of c (Lock x c found ∷ past)) x ≡ true = ap (λ p. locked p x) (part_of-lock c x found past) ∙ (grind (arith, self)) in
    All-cons (IsOfNodes nodes) (Lock x c found) past (inside c x own)
    (events_inside parents nodes past (legal_before parents (Lock x c found) past legal) (λ d y l. inside d y (locked_still c x found past d y l)))
events_inside parents nodes (Free x c left ∷ past) legal inside =
    let own : EachPermitted parents (A.Free x left ∷ part_of c past) = subst (EachPermitted parents) (part_of-free c x left past) (legal.obeys c) in
    All-cons (IsOfNodes nodes) (Free x c left) past (inside c x (locked-free c x left past c x ∙ held-locked (part_of c past) x own.0))
    (events_inside parents nodes past (legal_before parents (Free x c left) past legal) (λ d y l. inside d y (locked-free c x left past d y ∙ l)))
events_inside parents nodes (Done c ∷ past) legal inside =
    All-cons (IsOfNodes nodes) (Done c) past tt
    (events_inside parents nodes past (legal_before parents (Done c) past legal) (λ d y l. inside d y (locked-done c past d y ∙ l)))

-- each lock and each free of a sound world is of one of its nodes
pub sound_inside : (w : World) → IsSound w → All (IsOfNodes (length w.parents)) w.past
sound_inside w sound = events_inside w.parents (length w.parents) w.past (sound_history w sound) (part_inside w sound)

-- a call that occurs in an agreeing order was admitted
stands_known : (w : World) → IsSound w → (order : List ℕ) → Agrees order w.past → (c : ℕ) → stands c order ≡ true → c < admits w.past
stands_known w sound order agrees c here = elim (cases_lt c (admits w.past)) [
  | inl known ↦ known
  | inr out ↦
      let none : locked_any (part_of c w.past) ≡ false = ap locked_any (unadmitted w.past sound.legal.in_turn c out) in
      let over = unadmitted_done w.past sound.legal.in_turn c out in
      let m = agrees.members c in
      absurd (both_ways (stands c order) (grind (arith, m, none, over)) here)
]

-- a property of each call that occurs in an order is a property of all its elements
stands_all : (P : ℕ → Type 0) (order : List ℕ) → ((c : ℕ) → stands c order ≡ true → P c) → All P order
stands_all P [] each = λ k d h. absurd (omega arith)
stands_all P (c ∷ cs) each =
    let self = eq-eqb c c refl in
    All-cons P c cs (each c (grind (arith, self))) (stands_all P cs (λ d s. each d (later c d cs s)))
  where
    later : (c d : ℕ) (cs : List ℕ) → stands d cs ≡ true → stands d (c ∷ cs) ≡ true
    later c d cs s = grind (arith, s)

-- each call of an order that agrees was admitted
pub order_known : (w : World) → IsSound w → (order : List ℕ) → Agrees order w.past → All (λ c. c < admits w.past) order
order_known w sound order agrees = stands_all (λ c. c < admits w.past) order (stands_known w sound order agrees)
