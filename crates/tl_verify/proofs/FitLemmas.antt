-- Marks that fit a code agree with all ways.
use Rattle.std.proofs.Common.{◌≡◌, ℕ, List, Option, Some, None, true, false, refl, ap, ◌∙◌}
use Rattle.std.specs.Prelude.{slice_get, get_or, slice_set}
use Rattle.tl_instr.specs.declared.instr.Instr.{Instr}
use Rattle.tl_instr.specs.declared.instr.Instr.TheVariants.{First, Child, Move, Release}
use Rattle.tl_verify.specs.declared.marks.Marks.{Marks}
use Rattle.tl_verify.specs.Marks.{entry, is_held, after, Leads, to_next, to_aside, to_body}
use Rattle.tl_verify.specs.Ways.{Way, start, onward}
use Rattle.tl_verify.specs.Acceptable.{Fits}

-- the registers held after an instruction depend only on those held before it
pub held-after : (i : Instr) (k m : Marks) → k.held ≡ m.held → (after i k).held ≡ (after i m).held
held-after (First n v l) k m e = ap (λ hs. slice_set hs n true) e
held-after (Child n parent v l) k m e = ap (λ hs. slice_set hs n true) e
held-after (Move n from) k m e = ap (λ hs. slice_set (slice_set hs from false) n true) e
held-after (Release n) k m e = ap (λ hs. slice_set hs n false) e
held-after i k m e = e

pub open-after : (i : Instr) (k m : Marks) → (k.is_open ≡ true → m.is_open ≡ true) → (after i k).is_open ≡ true → (after i m).is_open ≡ true
open-after (First n v l) k m f e = e
open-after (Child n parent v l) k m f e = f e
open-after (Move n from) k m f e = f e
open-after (Release n) k m f e = f e
open-after i k m f e = f e

-- the list has marks where the way leads, with the same registers held; if `first` is open in them, it is open on the way
pub record Agrees (list : List (Option Marks)) (p : ℕ) (m : Marks) : Type 0 where
  pub marks : Marks
  pub there : get_or list p None ≡ Some marks
  pub held : marks.held ≡ m.held
  pub is_open : marks.is_open ≡ true → m.is_open ≡ true

along : (code : List Instr) (list : List (Option Marks)) → Fits code list → (p q : ℕ) (m k : Marks) (i : Instr) → slice_get code p ≡ Some i → Agrees list p m → Leads code i p m q k → Agrees list q k
along code list fits p q m k i at before (to_next goes there is) =
    let a = fits.arrives p i before.marks at before.there q (after i before.marks) (to_next goes there refl) in
    rw is (record { marks = a.marks; there = a.there; held = a.held ∙ held-after i before.marks m before.held; is_open = λ e. open-after i before.marks m before.is_open (a.is_open e) })
along code list fits p q m k i at before (to_aside there is) =
    let a = fits.arrives p i before.marks at before.there q before.marks (to_aside there refl) in
    rw is (record { marks = a.marks; there = a.there; held = a.held ∙ before.held; is_open = λ e. before.is_open (a.is_open e) })
along code list fits p q m k i at before (to_body o l opens ends there is) =
    let a = fits.arrives p i before.marks at before.there q before.marks (to_body o l opens ends there refl) in
    rw is (record { marks = a.marks; there = a.there; held = a.held ∙ before.held; is_open = λ e. before.is_open (a.is_open e) })

pub agrees : (code : List Instr) (list : List (Option Marks)) → Fits code list → (p : ℕ) (m : Marks) → Way code p m → Agrees list p m
agrees code list fits p m start = record { marks = entry; there = fits.start; held = refl; is_open = λ e. e }
agrees code list fits q k (onward {p = p} {m = m} way i at leads lt) =
    along code list fits p q m k i at (agrees code list fits p m way) leads

pub same_held : (m k : Marks) (n : ℕ) → k.held ≡ m.held → is_held k n ≡ is_held m n
same_held m k n e = ap (λ hs. get_or hs n false) e
