use Rattle.std.proofs.Common.{rules, ◌≡◌, IsTrue, false, sym, subst}
use Rattle.std.proofs.lemmas.Bool.{both_ways}
use Rattle.std.proofs.lemmas.Result.{err_from_is_err_and}
use Rattle.tl_compare.specs.Epochs.{AreAsked}
use Rattle.tl_compare.proofs.RowLemmas.{calls_are, asked_are, arguments_are}
use Rattle.tl_compare.proofs.calls.check_calls.Goals as goal

pub returns-in_err-requests-clause-again : goal.returns-in_err-requests-clause-again
returns-in_err-requests-clause-again c = λ are.
    let p = err_from_is_err_and c.from_residual.result c.from_residual.ensures.1 in
    rw (p.1, p.2) (c.in_err-requests.ensures.again are.epoch_is are.numbered (arguments_are c.args.core.now.seen c.args.epoch c.args.rows.now are))

pub returns-then-are_asked-clause-same : goal.returns-then-are_asked-clause-same
returns-then-are_asked-clause-same c =
    let v = c.args.core.now.seen in
    let yes : IsTrue c.are_asked.result = search rules in
    let asked : AreAsked v c.in_ok-requests.requests.items = subst (AreAsked v) c.as_slice.ensures.value (c.are_asked.ensures.0 yes) in
    calls_are v c.args.epoch c.args.rows.now c.in_ok-requests.requests.items c.in_ok-requests.ensures.epoch c.in_ok-requests.ensures.numbered c.in_ok-requests.ensures.requests asked

pub returns-clause-again : goal.returns-clause-again
returns-clause-again c = λ are.
    let v = c.args.core.now.seen in
    let other : c.are_asked.result ≡ false = search rules in
    let asked : AreAsked v c.in_ok-requests.requests.items = asked_are v c.args.epoch c.args.rows.now c.in_ok-requests.requests.items c.in_ok-requests.ensures.requests are in
    absurd (both_ways c.are_asked.result other (c.are_asked.ensures.1 (subst (AreAsked v) (sym c.as_slice.ensures.value) asked)))
