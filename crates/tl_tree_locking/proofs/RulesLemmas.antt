-- Events that keep the rules one after another are a legal history.
use Rattle.std.proofs.Common.{◌≡◌, ℕ, suc, ◌<◌, true, false, List, [], ◌∷◌, Some, sym, ap, ◌∙◌, subst, inl, inr, arith}
use Rattle.std.specs.Prelude.{All, IsTrue, ◌↔◌, nat_eq}
use Rattle.std.proofs.lemmas.Bool.{cases_Bool, cases_eq, both_ways, ne_eqb, eq-eqb}
use Rattle.tl_tree.specs.Records.{Record}
use Rattle.tl_tree_locking.specs.declared.action.Action.{Action}
use Rattle.tl_tree_locking.specs.declared.action.Action.TheVariants as A
use Rattle.tl_tree_locking.specs.declared.event.Event.{Event}
use Rattle.tl_tree_locking.specs.declared.event.Event.TheVariants.{Admit, Lock, Free, Done}
use Rattle.tl_tree_locking.specs.Actions.{locked, held, EachPermitted, Permitted}
use Rattle.tl_tree_locking.specs.History.{caller, part_of, is_done, Apart, IsLegalHistory}
use Rattle.tl_tree_locking.specs.Holders.{holder_of}
use Rattle.tl_tree_locking.specs.Nodes.{IsOfNodes}
use Rattle.tl_tree_locking.specs.Rules.{IsPermitted, KeepsRules, IsApart}
use Rattle.tl_tree_locking.proofs.Holders.{held-holder, holder-held}
use Rattle.tl_tree_locking.proofs.MayComeLemmas.{held-locked}
use Rattle.tl_tree_locking.proofs.PartLemmas.{part_of-other, part_of-lock, part_of-free, part_of-done, locked-lock, locked-free, locked-done}
use Rattle.tl_tree_locking.proofs.Permitted.{has_ended-part_of}

-- ---- one more event

obeys_own : (parents : List ℕ) (e : Event) (past : List Event) (c : ℕ) → caller e ≡ c → KeepsRules parents past e → EachPermitted parents (part_of c past) → EachPermitted parents (part_of c (e ∷ past))
obeys_own parents (Admit d) past c same rules h = h
obeys_own parents (Lock x d found) past c same rules h =
    let q = eq-eqb d c same in
    let permitted : Permitted parents (part_of c past) (A.Lock x found) = subst (λ k. Permitted parents (part_of k past) (A.Lock x found)) same rules.permitted in
    rw q (permitted, has_ended-part_of c past ∙ ap (λ k. is_done k past) (sym same) ∙ rules.may_happen.1, h)
obeys_own parents (Free x d left) past c same rules h =
    let q = eq-eqb d c same in
    let permitted : Permitted parents (part_of c past) (A.Free x left) = subst (λ k. Permitted parents (part_of k past) (A.Free x left)) same rules.permitted in
    rw q (permitted, has_ended-part_of c past ∙ ap (λ k. is_done k past) (sym same) ∙ rules.may_happen.1, h)
obeys_own parents (Done d) past c same rules h =
    let q = eq-eqb d c same in
    let permitted : Permitted parents (part_of c past) A.End = subst (λ k. Permitted parents (part_of k past) A.End) same rules.permitted in
    rw q (permitted, has_ended-part_of c past ∙ ap (λ k. is_done k past) (sym same) ∙ rules.may_happen.1, h)

obeys_more : (parents : List ℕ) (e : Event) (past : List Event) (c : ℕ) → KeepsRules parents past e → EachPermitted parents (part_of c past) → EachPermitted parents (part_of c (e ∷ past))
obeys_more parents e past c rules h = elim (cases_eq (caller e) c) [
  | inl same ↦ obeys_own parents e past c same rules h
  | inr other ↦ let q = part_of-other e c past other in rw q h
]

not_held : (done : List Action) (x : ℕ) → locked done x ≡ false → held done x ≡ false
not_held done x none = elim (cases_Bool (held done x)) [
  | inl yes' ↦ absurd (both_ways (locked done x) none (held-locked done x yes'))
  | inr no' ↦ no'
]

apart_more : (parents : List ℕ) (e : Event) (past : List Event) → KeepsRules parents past e → IsApart past e → Apart past → Apart (e ∷ past)
apart_more parents (Admit c) past rules apart h = h
apart_more parents (Lock x c found) past rules apart h = (
  λ d. elim (cases_eq d c) [
    | inl same ↦ subst (λ k. held (part_of k past) x ≡ false) (sym same) (not_held (part_of c past) x rules.permitted.0)
    | inr other ↦ apart d other
  ],
  h,
)
apart_more parents (Free x c left) past rules apart h = h
apart_more parents (Done c) past rules apart h = h

-- an event that keeps the rules, and locks no node that another call holds, extends a legal history
pub legal_next : (parents : List ℕ) (e : Event) (past : List Event) → KeepsRules parents past e → IsApart past e → IsLegalHistory parents past → IsLegalHistory parents (e ∷ past)
legal_next parents e past rules apart before = record {
  obeys = λ c. obeys_more parents e past c rules (before.obeys c);
  apart = apart_more parents e past rules apart before.apart;
  in_turn = (rules.may_happen, before.in_turn);
}

-- the last event of a legal history is permitted
pub event_permitted : (parents : List ℕ) (e : Event) (past : List Event) → IsLegalHistory parents (e ∷ past) → IsPermitted parents past e
event_permitted parents (Admit c) past legal = tt
event_permitted parents (Lock x c found) past legal =
    let each : EachPermitted parents (A.Lock x found ∷ part_of c past) = subst (EachPermitted parents) (part_of-lock c x found past) (legal.obeys c) in each.0
event_permitted parents (Free x c left) past legal =
    let each : EachPermitted parents (A.Free x left ∷ part_of c past) = subst (EachPermitted parents) (part_of-free c x left past) (legal.obeys c) in each.0
event_permitted parents (Done c) past legal =
    let each : EachPermitted parents (A.End ∷ part_of c past) = subst (EachPermitted parents) (part_of-done c past) (legal.obeys c) in each.0

pub legal_last : (parents : List ℕ) (e : Event) (past : List Event) → IsLegalHistory parents (e ∷ past) → KeepsRules parents past e × IsApart past e
legal_last parents (Admit c) past legal = (record { may_happen = legal.in_turn.0; permitted = tt }, tt)
legal_last parents (Lock x c found) past legal = (
  record { may_happen = legal.in_turn.0; permitted = event_permitted parents (Lock x c found) past legal },
  λ d ne. legal.apart.0 d,
)
legal_last parents (Free x c left) past legal = (record { may_happen = legal.in_turn.0; permitted = event_permitted parents (Free x c left) past legal }, tt)
legal_last parents (Done c) past legal = (record { may_happen = legal.in_turn.0; permitted = event_permitted parents (Done c) past legal }, tt)

-- ---- who holds a node

pub holder_apart : (parents : List ℕ) (past : List Event) → IsLegalHistory parents past → (c x h : ℕ) (found : Record) → holder_of past x ≡ Some h
    → IsTrue (nat_eq h c) ↔ IsApart past (Lock x c found)
holder_apart parents past legal c x h found held_by = (
  λ own d other. elim (cases_Bool (held (part_of d past) x)) [
    | inl yes' ↦
        let by : holder_of past x ≡ Some d = held-holder parents past legal d x yes' in
        let same : Some h ≡ Some d = sym held_by ∙ by in
        let it : h ≡ d = cc in
        absurd (other (elim (cases_eq h c) [ inl e ↦ sym it ∙ e | inr ne ↦ absurd (both_ways (nat_eq h c) (ne_eqb h c ne) own) ]))
    | inr no' ↦ no'
  ],
  λ apart. elim (cases_eq h c) [
    | inl e ↦ eq-eqb h c e
    | inr ne ↦ absurd (both_ways (held (part_of h past) x) (apart h ne) (holder-held parents past legal h x held_by))
  ],
)

-- ---- where nodes are locked

all_first : (P : Event → Type 0) (e : Event) (past : List Event) → All P (e ∷ past) → P e
all_first P e past all = all 0 e (omega arith)

all_later : (P : Event → Type 0) (e : Event) (past : List Event) → All P (e ∷ past) → All P past
all_later P e past all k d h = all (suc k) d (omega arith)

-- calls lock only nodes of the tree
pub locked_inside : (n : ℕ) (past : List Event) → All (IsOfNodes n) past → (c y : ℕ) → locked (part_of c past) y ≡ true → y < n
locked_inside n [] all c y l = absurd cc
locked_inside n (Admit d ∷ past) all c y l = locked_inside n past (all_later (IsOfNodes n) (Admit d) past all) c y l
locked_inside n (Lock x d found ∷ past) all c y l = elim (locked-lock d x found past c y l) [
  | inl same ↦ let here : x < n = all_first (IsOfNodes n) (Lock x d found) past all in let e = same.1 in omega arith
  | inr before ↦ locked_inside n past (all_later (IsOfNodes n) (Lock x d found) past all) c y before
]
locked_inside n (Free x d left ∷ past) all c y l =
    locked_inside n past (all_later (IsOfNodes n) (Free x d left) past all) c y (sym (locked-free d x left past c y) ∙ l)
locked_inside n (Done d ∷ past) all c y l =
    locked_inside n past (all_later (IsOfNodes n) (Done d) past all) c y (sym (locked-done d past c y) ∙ l)
