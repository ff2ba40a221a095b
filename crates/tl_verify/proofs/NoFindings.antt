-- If registers fit, they have no faults.
use Rattle.std.proofs.Common.{◌≡◌, ℕ, ◌+◌, ◌<◌, ◌≤◌, List, Option, Some, None, Bool, true, false, refl, sym, ap, ◌∙◌, arith, ⊎_elim, subst}
use Rattle.std.specs.Prelude.{slice_get, get_or}
use Rattle.tl_instr.specs.declared.instr.Instr.{Instr}
use Rattle.tl_instr.specs.declared.instr.Instr.TheVariants.{First, Child, Move, Release}
use Rattle.tl_budget.specs.Loops.{Loop, loop_at}
use Rattle.tl_verify.specs.declared.marks.Marks.{Marks}
use Rattle.tl_verify.specs.Marks.{after, is_first, furthest, Leads, to_next, to_aside, to_body}
use Rattle.tl_verify.specs.Ways.{Way, start, onward}
use Rattle.tl_verify.specs.Acceptable.{Fits, Arrives, HasFit, Acceptable}
use Rattle.tl_verify.specs.Findings.{Finding, OfLoops, TargetBack, TargetPastEnd, TargetInLoop, Joined, Spent, Missing, Taken, LeftHeld, Changed, NextPastEnd, Steps, Locks, Emits, Arises, Changes, pass}
use Rattle.tl_verify.proofs.Asides.{furthest_goes}
use Rattle.tl_verify.proofs.LoopBodies.{EntersNone, reach, from_body, first_or_behind}
use Rattle.tl_verify.proofs.FitLemmas.{Agrees, agrees, same_held}
use Rattle.tl_budget.proofs.AroundLemmas.{nothing_found as loops_nothing_found}
use Rattle.tl_verify.proofs.LoopFindings.{loops_first}

-- only a `first` instruction spends `first`
open_unless_first : (i : Instr) (m : Marks) → (is_first i ≡ true → ⊥) → (after i m).is_open ≡ m.is_open
open_unless_first (First n v l) m h = absurd (h refl)
open_unless_first (Child n parent v l) m h = refl
open_unless_first (Move n from) m h = refl
open_unless_first (Release n) m h = refl
open_unless_first i m h = refl

closed : (b : Bool) → (b ≡ true → ⊥) → b ≡ false
closed true h = absurd (h refl)
closed false h = refl

-- If the list has `first` spent at the first position of a body, it has it spent in the whole body. So no `first`
-- instruction is there, and a way that enters the body with `first` open keeps it open.
module _ (code : List Instr) (enters_none : EntersNone code) (list : List (Option Marks)) (fits : Fits code list) (o : ℕ) (l : Loop) (there : loop_at code o ≡ Some l)
    (body : Marks) (has : get_or list (o + 1) None ≡ Some body) (spent : body.is_open ≡ false) (opens : (k : Marks) → Way code (o + 1) k → k.is_open ≡ true) where
  pub record Unspent (q : ℕ) (m : Marks) : Type 0 where
    pub is_open : m.is_open ≡ true
    pub of_list : (k : Marks) → get_or list q None ≡ Some k → k.is_open ≡ false

  -- one step in the body
  onward_unspent : (p q : ℕ) (m k : Marks) (i : Instr) → slice_get code p ≡ Some i → Agrees list p m → Leads code i p m q k → p < q → Unspent p m → Unspent q k
  onward_unspent p q m k i at a leads less u = by leads
    where
      was : a.marks.is_open ≡ false
      was = u.of_list a.marks a.there

      not_first : is_first i ≡ true → ⊥
      not_first first = let w = was in let h = (fits.allows p i a.marks at a.there).is_open first in cc

      same : (j b : Marks) → get_or list q None ≡ Some j → get_or list q None ≡ Some b → (j.is_open ≡ true → ⊥) → b.is_open ≡ false
      same j b e f h = let g : j ≡ b = let x : Some j ≡ Some b = sym e ∙ f in cc in closed b.is_open (λ x. h (ap (λ (y : Marks). y.is_open) g ∙ x))

      by : Leads code i p m q k → Unspent q k
      by (to_next goes is got) =
          let c = fits.arrives p i a.marks at a.there q (after i a.marks) (to_next goes is refl) in
          record {
            is_open = ap (λ (x : Marks). x.is_open) got ∙ open_unless_first i m not_first ∙ u.is_open;
            of_list = λ b is. same c.marks b c.there is (λ e. let w = was in let h = sym (open_unless_first i a.marks not_first) ∙ c.is_open e in cc);
          }
      by (to_aside is got) =
          let c = fits.arrives p i a.marks at a.there q a.marks (to_aside is refl) in
          record {
            is_open = ap (λ (x : Marks). x.is_open) got ∙ u.is_open;
            of_list = λ b is. same c.marks b c.there is (λ e. let w = was in let h = c.is_open e in cc);
          }
      by (to_body o' l' opens' ends is got) = let h = (reach code o' l' opens').1 in absurd (omega arith)

  pub unspent : (q : ℕ) (m : Marks) → Way code q m → o < q → q ≤ l.close → Unspent q m
  unspent q m start lt le = absurd (omega arith)
  unspent q m (onward {p = p} {m = before} way i at leads less) lt le =
      ⊎_elim (λ first. record {
        is_open = opens m (subst (λ r. Way code r m) first (onward way i at leads less));
        of_list = λ k is.
            let e : body ≡ k = let h : Some body ≡ Some k = sym has ∙ ap (λ r. get_or list r None) (sym first) ∙ is in cc in
            ap (λ (x : Marks). x.is_open) (sym e) ∙ spent;
      })
      (λ behind.
      let inside = from_body code enters_none o l there p q before m i at leads less behind le in
      onward_unspent p q before m i at (agrees code list fits p before way) leads less (unspent p before way inside (omega arith)))
      (first_or_behind code enters_none o l there q lt)

-- a turn of a loop changes nothing
no_change : (code : List Instr) → EntersNone code → (list : List (Option Marks)) → Fits code list → (p : ℕ) (i : Instr) (m : Marks) (o : ℕ) (l : Loop)
    → slice_get code p ≡ Some i → Way code p m → loop_at code o ≡ Some l → l.close ≡ p → Changes code l m → ⊥
no_change code enters_none list fits p i m o l at way there ends changes =
    ⊎_elim (λ ne. ne (sym a.held ∙ sym turn.held ∙ ap (λ (x : Marks). x.held) same ∙ b.held))
    (λ x. spent x.0 x.1) changes.differs
  where
    r : (l.opening ≡ o) × (o < l.close)
    r = reach code o l there

    a : Agrees list p m
    a = agrees code list fits p m way

    b : Agrees list (l.opening + 1) changes.start
    b = agrees code list fits (l.opening + 1) changes.start changes.way

    turn : Arrives code list (l.opening + 1) a.marks
    turn = fits.arrives p i a.marks at a.there (l.opening + 1) a.marks (to_body o l there ends (ap (λ n. n + 1) r.0) refl)

    same : turn.marks ≡ b.marks
    same = let e : Some turn.marks ≡ Some b.marks = sym turn.there ∙ b.there in cc

    spent : m.is_open ≡ false → ((k : Marks) → Way code (l.opening + 1) k → k.is_open ≡ true) → ⊥
    spent is_spent opens =
        let was : turn.marks.is_open ≡ false = closed turn.marks.is_open (λ e. let h = a.is_open (turn.is_open e) in cc) in
        let has = ap (λ n. get_or list (n + 1) None) (sym r.0) ∙ turn.there in
        let u = unspent code enters_none list fits o l there turn.marks has was (λ k w. opens k (subst (λ n. Way code (n + 1) k) (sym r.0) w)) p m way (let h = r.1 in omega arith) (omega arith) in
        let h = u.is_open in
        cc

-- registers that fit have no faults
pub fit_finds_nothing : (code : List Instr) → EntersNone code → HasFit code → (f : Finding) → pass f ≡ 3 → Arises code f → ⊥
fit_finds_nothing code enters_none fit (OfLoops f) e a = let h = loops_first f in absurd (omega arith)
fit_finds_nothing code enters_none fit (TargetBack p) e a = absurd (omega arith)
fit_finds_nothing code enters_none fit (TargetPastEnd p) e a = absurd (omega arith)
fit_finds_nothing code enters_none fit (TargetInLoop p) e a = absurd (omega arith)
fit_finds_nothing code enters_none fit (Joined p) e (i, m, k, x, y, ne) =
    let a = agrees code fit.list fit.fits p m x.way in
    let b = agrees code fit.list fit.fits p k y.way in
    let same : a.marks ≡ b.marks = let e : Some a.marks ≡ Some b.marks = sym a.there ∙ b.there in cc in
    ne (sym a.held ∙ ap (λ (z : Marks). z.held) same ∙ b.held)
fit_finds_nothing code enters_none fit (Spent p) e (i, m, x, first, spent) =
    let a = agrees code fit.list fit.fits p m x.way in
    let h = a.is_open ((fit.fits.allows p i a.marks x.at a.there).is_open first) in
    cc
fit_finds_nothing code enters_none fit (Missing p n) e (i, m, x, from, empty) =
    let a = agrees code fit.list fit.fits p m x.way in
    let h = (fit.fits.allows p i a.marks x.at a.there).held n from in
    let g = same_held m a.marks n a.held in
    cc
fit_finds_nothing code enters_none fit (Taken p n) e (i, m, x, to, full) =
    let a = agrees code fit.list fit.fits p m x.way in
    let h = (fit.fits.allows p i a.marks x.at a.there).empty n to in
    let g = same_held m a.marks n a.held in
    cc
fit_finds_nothing code enters_none fit (LeftHeld p n) e (i, m, x, returns, full, least) =
    let a = agrees code fit.list fit.fits p m x.way in
    let h = (fit.fits.allows p i a.marks x.at a.there).returns returns n in
    let g = same_held m a.marks n a.held in
    cc
fit_finds_nothing code enters_none fit (Changed p) e (i, m, o, l, x, there, ends, changes) = no_change code enters_none fit.list fit.fits p i m o l x.at x.way there ends changes
fit_finds_nothing code enters_none fit (NextPastEnd p) e (i, m, x, goes, past) =
    let a = agrees code fit.list fit.fits p m x.way in
    ⊎_elim
    (λ near.
    let b = fit.fits.arrives p i a.marks x.at a.there (p + 1) (after i a.marks) (to_next goes refl refl) in
    let h = b.inside in
    absurd (omega arith))
    (λ far.
    let b = fit.fits.arrives p i a.marks x.at a.there (furthest code p i + 1) a.marks (to_aside far refl) in
    let h = b.inside in
    absurd (omega arith))
    (furthest_goes code p i)
fit_finds_nothing code enters_none fit Steps e a = absurd (omega arith)
fit_finds_nothing code enters_none fit Locks e a = absurd (omega arith)
fit_finds_nothing code enters_none fit Emits e a = absurd (omega arith)

-- an accepted code has no faults
pub nothing_found : (code : List Instr) → Acceptable code → (f : Finding) → Arises code f → ⊥
nothing_found code acc (OfLoops f) a = loops_nothing_found code (record { matched = acc.matched; shallow = acc.deep }) f a
nothing_found code acc (TargetBack p) a = let h = acc.ahead p a.1 a.0 a.2 a.3 in let k = a.4 in absurd (omega arith)
nothing_found code acc (TargetPastEnd p) a = let h = acc.inside p a.1 a.0 a.2 a.3 in let k = a.4 in absurd (omega arith)
nothing_found code acc (TargetInLoop p) (i, l, o, k, at, is, into, out) = out (acc.into_none p l i at is o k into)
nothing_found code acc (Joined p) a = fit_finds_nothing code acc.into_none acc.registers (Joined p) refl a
nothing_found code acc (Spent p) a = fit_finds_nothing code acc.into_none acc.registers (Spent p) refl a
nothing_found code acc (Missing p n) a = fit_finds_nothing code acc.into_none acc.registers (Missing p n) refl a
nothing_found code acc (Taken p n) a = fit_finds_nothing code acc.into_none acc.registers (Taken p n) refl a
nothing_found code acc (LeftHeld p n) a = fit_finds_nothing code acc.into_none acc.registers (LeftHeld p n) refl a
nothing_found code acc (Changed p) a = fit_finds_nothing code acc.into_none acc.registers (Changed p) refl a
nothing_found code acc (NextPastEnd p) a = fit_finds_nothing code acc.into_none acc.registers (NextPastEnd p) refl a
nothing_found code acc Steps a = let h = acc.steps in absurd (omega arith)
nothing_found code acc Locks a = let h = acc.locks in absurd (omega arith)
nothing_found code acc Emits a = let h = acc.emits in absurd (omega arith)
