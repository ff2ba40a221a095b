-- The marks of a call, and the number of true entries in a list.
use Rattle.std.proofs.Common.{◌≡◌, ℕ, zero, suc, ◌+◌, ◌<◌, ◌≤◌, Bool, true, false, List, [], ◌∷◌, length, map, get_or, set, replicate, sym, refl, ap, ◌∙◌, inl, inr, arith}
use Rattle.std.proofs.Math.Seq.{map-set_same}
use Rattle.std.proofs.lemmas.Bool.{cases_eq, eq-eqb, ne_eqb}
use Rattle.std.proofs.lemmas.Grind.{get_or-set_at}
use Rattle.std.proofs.lemmas.List.{get_or-map, get_or-set_other, length-map, length-set, map-set}
use Rattle.tl_tree.specs.Records.{Record}
use Rattle.tl_tree_locking.specs.declared.action.Action.{Action}
use Rattle.tl_tree_locking.specs.declared.action.Action.TheVariants.{Lock, Free}
use Rattle.tl_tree_locking.specs.Actions
use Rattle.tl_serial_order.specs.declared.part.Mark.{Mark}
use Rattle.tl_serial_order.specs.declared.part.Mark.TheVariants.{Untouched, Held, Freed}
use Rattle.tl_serial_order.specs.Part.{Marks, IsPart, was_locked, is_held, trues}

abbrev pub marks : List Bool → List Bool → Marks
marks ls hs = record { locked = ls; held = hs }

-- the marks as callers see them
abbrev pub shown : List Mark → Marks
shown ms = marks (map was_locked ms) (map is_held ms)

-- reading the mark at a position
pub read_at : (f : Mark → Bool) (ms : List Mark) (i j : ℕ) (m : Mark) (b : Bool) → j ≡ i → i < length ms → m ≡ get_or ms j m → b ≡ f m
    → b ≡ get_or (map f ms) i false
read_at f ms i j m b same inside here is = is ∙ ap f (here ∙ ap (λ k. get_or ms k m) same) ∙ sym (get_or-map f ms i m false inside)

held_was_locked : (m : Mark) → is_held m ≡ true → was_locked m ≡ true
held_was_locked Untouched h = h
held_was_locked Held h = refl
held_was_locked Freed h = refl

-- a node that is held and then freed is still marked as locked
pub freed_stays_locked : (ms : List Mark) (x : ℕ) → x < length ms → get_or (map is_held ms) x false ≡ true → map was_locked (set ms x Freed) ≡ map was_locked ms
freed_stays_locked ms x inside h =
    let held : is_held (get_or ms x Freed) ≡ true = sym (get_or-map is_held ms x Freed false inside) ∙ h in
    map-set_same was_locked ms x Freed Freed (sym (held_was_locked (get_or ms x Freed) held))

pub all_untouched : (f : Mark → Bool) (n : ℕ) → f Untouched ≡ false → map f (replicate n Untouched) ≡ replicate n false
all_untouched f zero none = refl
all_untouched f (suc n) none = rw none (ap (λ bs. false ∷ bs) (all_untouched f n none))

-- the marks after the call locks a node
pub locked_next : (ls hs : List Bool) (x : ℕ) (done : List Action) (found : Record) → IsPart (marks ls hs) done
    → length hs ≡ length ls → IsPart (marks (set ls x true) (set hs x true)) (Lock x found ∷ done)
locked_next ls hs x done found own even = record { locks = locks; holds = holds }
  where
    locks : (y : ℕ) → y < length (set ls x true) → get_or (set ls x true) y false ≡ Actions.locked (Lock x found ∷ done) y
    locks y inside =
        let size = length-set ls x true in
        elim (cases_eq y x) [
          | inl same ↦ rw (eq-eqb x y (sym same)) (get_or-set_at ls x y true false same (omega (arith, size, inside)))
          | inr other ↦ rw (ne_eqb x y (λ e. other (sym e))) (get_or-set_other ls x y true false other ∙ own.locks y (omega (arith, size, inside)))
        ]

    holds : (y : ℕ) → y < length (set ls x true) → get_or (set hs x true) y false ≡ Actions.held (Lock x found ∷ done) y
    holds y inside =
        let size = length-set ls x true in
        elim (cases_eq y x) [
          | inl same ↦ rw (eq-eqb x y (sym same)) (get_or-set_at hs x y true false same (omega (arith, size, even, inside, same)))
          | inr other ↦ rw (ne_eqb x y (λ e. other (sym e))) (get_or-set_other hs x y true false other ∙ own.holds y (omega (arith, size, inside)))
        ]

-- the marks after the call frees a node
pub freed_next : (ls hs : List Bool) (x : ℕ) (done : List Action) (left : Record) → IsPart (marks ls hs) done
    → length hs ≡ length ls → IsPart (marks ls (set hs x false)) (Free x left ∷ done)
freed_next ls hs x done left own even = record { locks = locks; holds = holds }
  where
    locks : (y : ℕ) → y < length ls → get_or ls y false ≡ Actions.locked (Free x left ∷ done) y
    locks y inside = own.locks y inside

    holds : (y : ℕ) → y < length ls → get_or (set hs x false) y false ≡ Actions.held (Free x left ∷ done) y
    holds y inside = elim (cases_eq y x) [
      | inl same ↦ rw (eq-eqb x y (sym same)) (get_or-set_at hs x y false false same (omega (arith, even, inside, same)))
      | inr other ↦ rw (ne_eqb x y (λ e. other (sym e))) (get_or-set_other hs x y false false other ∙ own.holds y inside)
    ]

pub same_length : (ms : List Mark) → length (map is_held ms) ≡ length (map was_locked ms)
same_length ms = length-map ms is_held ∙ sym (length-map ms was_locked)

pub shows_lock : (ms : List Mark) (x : ℕ) (done : List Action) (found : Record) → IsPart (shown ms) done → IsPart (shown (set ms x Held)) (Lock x found ∷ done)
shows_lock ms x done found own =
    rw (map-set was_locked ms x Held, map-set is_held ms x Held)
    (locked_next (map was_locked ms) (map is_held ms) x done found own (same_length ms))

pub shows_free : (ms : List Mark) (x : ℕ) (done : List Action) (left : Record) → x < length ms → get_or (map is_held ms) x false ≡ true
    → IsPart (shown ms) done → IsPart (shown (set ms x Freed)) (Free x left ∷ done)
shows_free ms x done left inside h own =
    rw (freed_stays_locked ms x inside h, map-set is_held ms x Freed)
    (freed_next (map was_locked ms) (map is_held ms) x done left own (same_length ms))

pub trues-le : (bs : List Bool) → trues bs ≤ length bs
trues-le [] = omega arith
trues-le (true ∷ bs) = omega (arith, trues-le bs)
trues-le (false ∷ bs) = omega (arith, trues-le bs)

-- a list with a false entry has fewer true entries than its length
pub trues-room : (bs : List Bool) (i : ℕ) → i < length bs → get_or bs i false ≡ false → trues bs < length bs
trues-room [] i inside h = absurd (omega arith)
trues-room (true ∷ bs) zero inside h = grind arith
trues-room (true ∷ bs) (suc i) inside h = omega (arith, trues-room bs i (omega arith) h)
trues-room (false ∷ bs) i inside h = omega (arith, trues-le bs)

pub trues-none : (bs : List Bool) (i : ℕ) → trues bs ≡ 0 → get_or bs i false ≡ false
trues-none [] i none = refl
trues-none (true ∷ bs) i none = absurd (omega arith)
trues-none (false ∷ bs) zero none = refl
trues-none (false ∷ bs) (suc i) none = trues-none bs i none

pub trues-one_more : (bs : List Bool) (i : ℕ) → i < length bs → get_or bs i false ≡ false → trues (set bs i true) ≡ trues bs + 1
trues-one_more [] i inside h = absurd (omega arith)
trues-one_more (true ∷ bs) zero inside h = grind arith
trues-one_more (true ∷ bs) (suc i) inside h = ap (λ n. n + 1) (trues-one_more bs i (omega arith) h)
trues-one_more (false ∷ bs) zero inside h = refl
trues-one_more (false ∷ bs) (suc i) inside h = trues-one_more bs i (omega arith) h

pub trues-one_less : (bs : List Bool) (i : ℕ) → get_or bs i false ≡ true → trues (set bs i false) + 1 ≡ trues bs
trues-one_less [] i h = grind arith
trues-one_less (true ∷ bs) zero h = refl
trues-one_less (true ∷ bs) (suc i) h = ap (λ n. n + 1) (trues-one_less bs i h)
trues-one_less (false ∷ bs) zero h = grind arith
trues-one_less (false ∷ bs) (suc i) h = trues-one_less bs i h

pub trues-false : (n : ℕ) → trues (replicate n false) ≡ 0
trues-false zero = refl
trues-false (suc n) = trues-false n

pub get_or-all_false : (n y : ℕ) → get_or (replicate n false) y false ≡ false
get_or-all_false zero y = refl
get_or-all_false (suc n) zero = refl
get_or-all_false (suc n) (suc y) = get_or-all_false n y

-- the marks of a call that has done nothing
pub shows_nothing : (n : ℕ) → IsPart (shown (replicate n Untouched)) []
shows_nothing n = record {
  locks = λ y inside. rw (all_untouched was_locked n refl) (get_or-all_false n y);
  holds = λ y inside. rw (all_untouched is_held n refl) (get_or-all_false n y);
}
