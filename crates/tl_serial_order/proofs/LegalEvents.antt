-- Properties of the first events of a legal history.
use Rattle.std.proofs.Common.{◌≡◌, ℕ, zero, suc, ◌+◌, ◌<◌, ◌≤◌, List, [], ◌∷◌, length, get_or, take, reverse, subst, arith}
use Rattle.std.specs.Prelude.{◌-◌}
use Rattle.std.proofs.lemmas.List.{take_all}
use Rattle.tl_tree_locking.specs.declared.event.Event.{Event}
use Rattle.tl_tree_locking.specs.declared.event.Event.TheVariants.{Admit, Lock, Free, Done}
use Rattle.tl_tree_locking.specs.History.{caller, admits, IsLegalHistory}
use Rattle.tl_tree.specs.Shape.{IsTree}
use Rattle.tl_tree_locking.proofs.PartLemmas.{legal_before}
use Rattle.tl_tree_locking.proofs.Pasts.{past_one_more}
use Rattle.tl_tree_locking.proofs.PlacingLemmas.{keeps_rules}

admits_grow : (e : Event) (past : List Event) → admits past ≤ admits (e ∷ past)
admits_grow (Admit c) past = omega arith
admits_grow (Lock x c found) past = omega arith
admits_grow (Free x c left) past = omega arith
admits_grow (Done c) past = omega arith

-- there are at most as many admissions as events
pub admits_few : (past : List Event) → admits past ≤ length past
admits_few [] = omega arith
admits_few (Admit c ∷ past) = omega (arith, admits_few past)
admits_few (Lock x c found ∷ past) = omega (arith, admits_few past)
admits_few (Free x c left ∷ past) = omega (arith, admits_few past)
admits_few (Done c ∷ past) = omega (arith, admits_few past)

-- the event's call was admitted
pub caller_known : (parents : List ℕ) → IsTree parents → (e : Event) (past : List Event) → IsLegalHistory parents (e ∷ past) → caller e < admits (e ∷ past)
caller_known parents tree (Admit c) past legal = let here = keeps_rules parents tree past (legal_before parents (Admit c) past legal) (Admit c) legal in omega (arith, here)
caller_known parents tree (Lock x c found) past legal = (keeps_rules parents tree past (legal_before parents (Lock x c found) past legal) (Lock x c found) legal).0.0
caller_known parents tree (Free x c left) past legal = (keeps_rules parents tree past (legal_before parents (Free x c left) past legal) (Free x c left) legal).0.0
caller_known parents tree (Done c) past legal = (keeps_rules parents tree past (legal_before parents (Done c) past legal) (Done c) legal).0.0

-- the first i events form a legal history, and admit at most as many calls as all
pub legal_so_far : (parents : List ℕ) (events : List Event) → IsLegalHistory parents (reverse events) → (i : ℕ) → i ≤ length events
    → IsLegalHistory parents (reverse (take i events)) × (admits (reverse (take i events)) ≤ admits (reverse events))
legal_so_far parents events legal i within = back (length events - i) i (omega (arith, within))
  where
    back : (more i : ℕ) → i + more ≡ length events → IsLegalHistory parents (reverse (take i events)) × (admits (reverse (take i events)) ≤ admits (reverse events))
    back zero i is =
        let whole : take i events ≡ events = take_all i events (omega (arith, is)) in
        rw whole (legal, omega arith)
    back (suc more) i is =
        let e = get_or events i (Admit 0) in
        let past = reverse (take i events) in
        let next = back more (i + 1) (omega (arith, is)) in
        let one_more : reverse (take (i + 1) events) ≡ e ∷ past = past_one_more events i (Admit 0) (omega (arith, is)) in
        let here : IsLegalHistory parents (e ∷ past) = subst (IsLegalHistory parents) one_more next.0 in
        let fewer : admits (e ∷ past) ≤ admits (reverse events) = subst (λ p. admits p ≤ admits (reverse events)) one_more next.1 in
        let grow = admits_grow e past in
        (legal_before parents e past here, omega (arith, grow, fewer))
