use Rattle.std.proofs.Common.{sym, subst}
use Rattle.std.proofs.lemmas.Result.{err_from_is_err_and}
use Rattle.tl_store.specs.Faults.{IsOutOfMemory}
use Rattle.tl_store.proofs.RebuiltLemmas.{rebuilt}
use Rattle.tl_store.proofs.AgainLemmas.{have_arguments, rows_lead}
use Rattle.tl_store.proofs.recovering.rebuild.Goals as goal

pub returns-in-Ok-clause-rebuilt : goal.returns-in-Ok-clause-rebuilt
returns-in-Ok-clause-rebuilt c =
    rebuilt c.args.stored.now c.in_ok-core.core.seen c.drive.new.core.seen c.in_ok-requests.requests.items c.in_ok-turns.turns.items
    c.in_ok-core.ensures.opened
    (rw c.as_slice.ensures.value at c.in_ok-requests.ensures.epoch)
    (rw c.as_slice-2.ensures.value at c.in_ok-turns.ensures.epoch)
    (rw c.as_slice.ensures.value at c.in_ok-requests.ensures.numbered)
    (rw c.as_slice.ensures.value at c.in_ok-requests.ensures.requests)
    (rw c.as_slice-2.ensures.value at c.in_ok-turns.ensures.turns)
    (rw c.as_slice-4.ensures.value at c.in-Ok.ensures.later)
    (rw c.as_slice-3.ensures.value at c.in-Ok.ensures.fits)
    c.in-Ok.ensures.goes_on c.in-Ok.ensures.done c.in-Ok.ensures.replies

pub returns-in_err-requests-clause-again : goal.returns-in_err-requests-clause-again
returns-in_err-requests-clause-again c = λ v reached rows.
    let r = err_from_is_err_and c.from_residual.result c.from_residual.ensures.1 in
    rw (r.1, r.2) (subst IsOutOfMemory (sym (c.in_err-requests.ensures.again (rw c.as_slice.ensures.value rows.epoch) (rw c.as_slice.ensures.value rows.numbered) (rw c.as_slice.ensures.value (have_arguments c.args.stored.now v rows)))) tt)

pub returns-clause-again : goal.returns-clause-again
returns-clause-again c = λ v reached rows.
    let same = c.in_ok-core.ensures.again v reached rows in
    let to = rows_lead c.args.stored.now v c.in_ok-core.core.seen c.in_ok-requests.requests.items c.in_ok-turns.turns.items reached rows c.in_ok-core.ensures.opened c.in_ok-core.ensures.limit same.0 same.1
    (rw c.as_slice.ensures.value at c.in_ok-requests.ensures.requests) (rw c.as_slice-2.ensures.value at c.in_ok-turns.ensures.turns) c.in_ok-turns.ensures.small in
    c.in-Err.ensures.again v (rw (c.as_slice-3.ensures.value, c.as_slice-4.ensures.value) to) rows.replies

pub returns-in-Ok-clause-same : goal.returns-in-Ok-clause-same
returns-in-Ok-clause-same c = λ v reached rows.
    let same = c.in_ok-core.ensures.again v reached rows in
    let to = rows_lead c.args.stored.now v c.in_ok-core.core.seen c.in_ok-requests.requests.items c.in_ok-turns.turns.items reached rows c.in_ok-core.ensures.opened c.in_ok-core.ensures.limit same.0 same.1
    (rw c.as_slice.ensures.value at c.in_ok-requests.ensures.requests) (rw c.as_slice-2.ensures.value at c.in_ok-turns.ensures.turns) c.in_ok-turns.ensures.small in
    c.in-Ok.ensures.same v (rw (c.as_slice-3.ensures.value, c.as_slice-4.ensures.value) to)
