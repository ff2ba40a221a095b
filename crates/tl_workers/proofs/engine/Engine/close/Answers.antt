use Rattle.std.proofs.Common.{◌≡◌, inl, inr, ℕ, List, sym, refl, subst, All}
use Rattle.std.specs.Prelude.{Some, slice_get}
use Rattle.std.proofs.lemmas.Bool.Decides.{when_true, when_false}
use Rattle.tl_table.specs.Epochs.{EpochValue, IsAtRest}
use Rattle.tl_table.specs.Tables.{TableValue}
use Rattle.tl_workers.specs.Kept.{SessionValue}
use Rattle.tl_workers.specs.Matching.{Matches}
use Rattle.tl_workers.proofs.AllSessions.{asked_once, all_find}
use Rattle.tl_workers.proofs.engine.Engine.close.Goals as goal

pub returns-in-Err-clause-err : goal.returns-in-Err-clause-err
returns-in-Err-clause-err c =
    let P : TableValue → Type 0 = λ t. ¬ IsAtRest t.current in (refl, inl (subst P (sym c.in-Err.ensures.err.0) c.in-Err.ensures.err.1))

pub returns-then-not-all_match-clause-err : goal.returns-then-not-all_match-clause-err
returns-then-not-all_match-clause-err c =
    let Q : List EpochValue → List SessionValue → Type 0 = λ es xs. (i : ℕ) × (s : SessionValue) × (slice_get xs i ≡ Some s) × ¬ Matches es s in
    let found : Q c.as_slice.result.now c.as_slice-2.result.now = when_false _ _ c.if-not-all_match.true c.all_match.ensures in
    let sessions : Q c.as_slice.result.now c.args.sessions.items = subst (Q c.as_slice.result.now) c.as_slice-2.ensures.value found in
    let chain : Q c.in-Ok.closed.items c.args.sessions.items = subst (λ es. Q es c.args.sessions.items) c.as_slice.ensures.value sessions in
    (refl, inr (subst (λ es. Q es c.args.sessions.items) (sym c.reopened.ensures) chain))

-- the sessions that were given match
matched : (held es : List EpochValue) (given sessions : List SessionValue) → held ≡ es → given ≡ sessions → All (Matches held) given → All (Matches es) sessions
matched held es given sessions chain same all = subst (λ xs. All (Matches xs) sessions) chain (subst (λ xs. All (Matches held) xs) same all)

pub returns-clause-ok : goal.returns-clause-ok
returns-clause-ok c =
    (refl, matched c.as_slice.result.now c.in-Ok.closed.items c.as_slice-2.result.now c.args.sessions.items c.as_slice.ensures.value c.as_slice-2.ensures.value (when_true _ _ c.if-not-all_match.false c.all_match.ensures))

pub returns-clause-once : goal.returns-clause-once
returns-clause-once c =
    asked_once c.in-Ok.closed.items c.args.sessions.items c.in-Ok.ensures.ok.2
    (matched c.as_slice.result.now c.in-Ok.closed.items c.as_slice-2.result.now c.args.sessions.items c.as_slice.ensures.value c.as_slice-2.ensures.value (when_true _ _ c.if-not-all_match.false c.all_match.ensures))

pub returns-clause-writes : goal.returns-clause-writes
returns-clause-writes c =
    all_find c.in-Ok.closed.items c.args.sessions.items c.in-Ok.ensures.ok.2
    (matched c.as_slice.result.now c.in-Ok.closed.items c.as_slice-2.result.now c.args.sessions.items c.as_slice.ensures.value c.as_slice-2.ensures.value (when_true _ _ c.if-not-all_match.false c.all_match.ensures))
