-- Which call was done when another was admitted, from one number for each call.
use Rattle.std.proofs.Common.{◌≡◌, ◌↔◌, ⊎_elim, ℕ, ◌<◌, ◌≤◌, Bool, true, false, List, [], ◌∷◌, ◌++◌, refl, sym, ap, ◌∙◌, subst, arith}
use Rattle.std.specs.Prelude.{◌==◌, ◌||◌, if◌then◌else◌}
use Rattle.std.proofs.Math.Nat.{eq-or-lt_of_le}
use Rattle.tl_tree_locking.specs.declared.event.Event.{Event}
use Rattle.tl_tree_locking.specs.declared.event.Event.TheVariants.{Admit, Lock, Free, Done}
use Rattle.tl_tree_locking.specs.History.{is_done, admits, InTurn}
use Rattle.tl_table.specs.Ends.{EndsBefore, begun_by_end}

-- after one more event the end still precedes the admission
later-ends : (e : Event) (past : List Event) (a b : ℕ) → EndsBefore past a b → EndsBefore (e ∷ past) a b
later-ends e past a b h = record {
  later = e ∷ h.later;
  earlier = h.earlier;
  admission = ap (λ es. e ∷ es) h.admission;
  ended = h.ended;
}

-- ---- no more calls begun than the number of the other

ended_case : (t : Bool) (past : List Event) (a b : ℕ) → (is_done a past ≡ true → begun_by_end a past ≤ b → EndsBefore past a b) → b < admits past
    → (t || is_done a past) ≡ true → (if t then admits past else begun_by_end a past) ≤ b → EndsBefore past a b
ended_case true past a b go lt done le = absurd (omega (arith, lt, le))
ended_case false past a b go lt done le = go done le

pub ended-few : (past : List Event) (a b : ℕ) → InTurn past → b < admits past → is_done a past ≡ true → begun_by_end a past ≤ b → EndsBefore past a b
ended-few [] a b turn lt done le = absurd (omega (arith, lt))
ended-few (Admit c ∷ past) a b turn lt done le =
    let b_le : b ≤ admits past = omega (arith, lt) in
    ⊎_elim
    (λ (e : b ≡ admits past). record {
      later = [];
      earlier = past;
      admission = ap (λ n. Admit n ∷ past) (turn.0 ∙ sym e);
      ended = done;
    })
    (λ (l : b < admits past). later-ends (Admit c) past a b (ended-few past a b turn.1 l done le))
    (eq-or-lt_of_le b_le)
ended-few (Lock x c found ∷ past) a b turn lt done le = later-ends (Lock x c found) past a b (ended-few past a b turn.1 lt done le)
ended-few (Free x c left ∷ past) a b turn lt done le = later-ends (Free x c left) past a b (ended-few past a b turn.1 lt done le)
ended-few (Done d ∷ past) a b turn lt done le =
    later-ends (Done d) past a b (ended_case (d == a) past a b (λ dn l. ended-few past a b turn.1 lt dn l) lt done le)

-- ---- where the end stands before the admission

or_true : (t : Bool) → (t || true) ≡ true
or_true true = refl
or_true false = refl

pub done_stays : (later earlier : List Event) (a : ℕ) → is_done a earlier ≡ true → is_done a (later ++ earlier) ≡ true
done_stays [] earlier a done = done
done_stays (Admit c ∷ later) earlier a done = done_stays later earlier a done
done_stays (Lock x c found ∷ later) earlier a done = done_stays later earlier a done
done_stays (Free x c left ∷ later) earlier a done = done_stays later earlier a done
done_stays (Done d ∷ later) earlier a done = ap (λ t. (d == a) || t) (done_stays later earlier a done) ∙ or_true (d == a)

pub in_turn_earlier : (later earlier : List Event) → InTurn (later ++ earlier) → InTurn earlier
in_turn_earlier [] earlier turn = turn
in_turn_earlier (Admit c ∷ later) earlier turn = in_turn_earlier later earlier turn.1
in_turn_earlier (Lock x c found ∷ later) earlier turn = in_turn_earlier later earlier turn.1
in_turn_earlier (Free x c left ∷ later) earlier turn = in_turn_earlier later earlier turn.1
in_turn_earlier (Done d ∷ later) earlier turn = in_turn_earlier later earlier turn.1

-- a call that is done doesn't end again
another_ends : (d a : ℕ) (past : List Event) (t : Bool) → (d == a) ≡ t → is_done d past ≡ false → is_done a past ≡ true → t ≡ false
another_ends d a past false e running done = refl
another_ends d a past true e running done = let s : d ≡ a = grind arith in absurd (let f : false ≡ true = sym running ∙ ap (λ c. is_done c past) s ∙ done in cc)

begun_stays : (later earlier : List Event) (a : ℕ) → InTurn (later ++ earlier) → is_done a earlier ≡ true → begun_by_end a (later ++ earlier) ≡ begun_by_end a earlier
begun_stays [] earlier a turn done = refl
begun_stays (Admit c ∷ later) earlier a turn done = begun_stays later earlier a turn.1 done
begun_stays (Lock x c found ∷ later) earlier a turn done = begun_stays later earlier a turn.1 done
begun_stays (Free x c left ∷ later) earlier a turn done = begun_stays later earlier a turn.1 done
begun_stays (Done d ∷ later) earlier a turn done =
    let other : (d == a) ≡ false = another_ends d a (later ++ earlier) (d == a) refl turn.0.1 (done_stays later earlier a done) in
    ap (λ t. if t then admits (later ++ earlier) else begun_by_end a (later ++ earlier)) other ∙ begun_stays later earlier a turn.1 done

begun_case : (t : Bool) (past : List Event) (a : ℕ) → begun_by_end a past ≤ admits past → (if t then admits past else begun_by_end a past) ≤ admits past
begun_case true past a le = omega arith
begun_case false past a le = le

pub begun_few : (past : List Event) (a : ℕ) → begun_by_end a past ≤ admits past
begun_few [] a = omega arith
begun_few (Admit c ∷ past) a = let le = begun_few past a in omega (arith, le)
begun_few (Lock x c found ∷ past) a = begun_few past a
begun_few (Free x c left ∷ past) a = begun_few past a
begun_few (Done d ∷ past) a = begun_case (d == a) past a (begun_few past a)

pub few-ended : (past : List Event) (a b : ℕ) → InTurn past → EndsBefore past a b → begun_by_end a past ≤ b
few-ended past a b turn h =
    let own : InTurn (h.later ++ (Admit b ∷ h.earlier)) = subst InTurn h.admission turn in
    let number : b ≡ admits h.earlier = (in_turn_earlier h.later (Admit b ∷ h.earlier) own).0 in
    let same : begun_by_end a past ≡ begun_by_end a h.earlier = ap (begun_by_end a) h.admission ∙ begun_stays h.later (Admit b ∷ h.earlier) a own h.ended in
    let le = begun_few h.earlier a in
    omega (arith, number, same, le)

-- the end of a done call a precedes the admission of b exactly if at most b calls had been admitted when a ended
pub ended-iff : (past : List Event) (a b : ℕ) → InTurn past → b < admits past → is_done a past ≡ true → (begun_by_end a past ≤ b) ↔ EndsBefore past a b
ended-iff past a b turn lt done = (ended-few past a b turn lt done, few-ended past a b turn)
