-- Calls that have ended.
use Rattle.std.proofs.Common.{◌≡◌, ℕ, ◌<◌, List, [], ◌∷◌, true, reverse, refl, arith, inl, inr, length}
use Rattle.std.specs.Prelude.{All, ◌==◌}
use Rattle.std.proofs.lemmas.Bool.{cases_Bool, cases_lt, both_ways, eq-eqb}
use Rattle.std.proofs.lemmas.List.Elements.{All-nil, All-cons, All-drop}
use Rattle.tl_tree_locking.specs.declared.event.Event.{Event}
use Rattle.tl_tree_locking.specs.declared.event.Event.TheVariants.{Admit, Lock, Free, Done}
use Rattle.tl_tree_locking.specs.History.{is_done, admits}
use Rattle.tl_tree_locking.specs.World.{IsSound}
use Rattle.tl_tree_locking.proofs.Pasts.{All-reverse}
use Rattle.tl_tree_locking.proofs.ReachedWorlds.{unadmitted_done}
use Rattle.tl_core.specs.Cores.{CoreValue, world_of}
use Rattle.tl_news.specs.News.{IsEnd, events_from}

-- a call that is done was admitted
known : (v : CoreValue) (c : ℕ) → IsSound (world_of v) → length v.calls ≡ admits v.past → is_done c v.past ≡ true → c < length v.calls
known v c sound counted over = elim (cases_lt c (admits v.past)) [
  | inl lt ↦ omega (arith, lt, counted)
  | inr out ↦ absurd (both_ways (is_done c v.past) (unadmitted_done v.past sound.legal.in_turn c out) over)
]

here : (c : ℕ) (past : List Event) → is_done c (Done c ∷ past) ≡ true
here c past = let self : (c == c) ≡ true = eq-eqb c c refl in rw self refl

-- a call that is done stays done
later : (e : Event) (c : ℕ) (past : List Event) → is_done c past ≡ true → is_done c (e ∷ past) ≡ true
later (Admit d) c past h = h
later (Lock x d found) c past h = h
later (Free x d left) c past h = h
later (Done d) c past h = elim (cases_Bool (d == c)) [
  | inl same ↦ rw same refl
  | inr other ↦ rw other h
]

ends : (v : CoreValue) → IsSound (world_of v) → length v.calls ≡ admits v.past → (part : List Event) → ((c : ℕ) → is_done c part ≡ true → is_done c v.past ≡ true) → All (IsEnd v) part
ends v sound counted [] sub = All-nil (IsEnd v)
ends v sound counted (Admit c ∷ part) sub =
    All-cons (IsEnd v) (Admit c) part tt (ends v sound counted part (λ d h. sub d (later (Admit c) d part h)))
ends v sound counted (Lock x c found ∷ part) sub =
    All-cons (IsEnd v) (Lock x c found) part tt (ends v sound counted part (λ d h. sub d (later (Lock x c found) d part h)))
ends v sound counted (Free x c left ∷ part) sub =
    All-cons (IsEnd v) (Free x c left) part tt (ends v sound counted part (λ d h. sub d (later (Free x c left) d part h)))
ends v sound counted (Done c ∷ part) sub =
    let over = sub c (here c part) in
    All-cons (IsEnd v) (Done c) part (known v c sound counted over, over) (ends v sound counted part (λ d h. sub d (later (Done c) d part h)))

-- the calls whose ends are among the events were admitted and are done
pub ends_behind : (v : CoreValue) (first : ℕ) → IsSound (world_of v) → length v.calls ≡ admits v.past → All (IsEnd v) (events_from first v)
ends_behind v first sound counted =
    All-drop (IsEnd v) first (reverse v.past) (All-reverse (IsEnd v) v.past (ends v sound counted v.past (λ c h. h)))
