use Rattle.std.proofs.Common.{◌≡◌, ◌++◌, ◌∙◌, map, pos, sym, ap, subst}
use Rattle.std.specs.Prelude.{All}
use Rattle.std.proofs.lemmas.Result.{err_from_is_err_and}
use Rattle.tl_tree_locking.specs.History.{caller}
use Rattle.tl_store.specs.Faults.{IsOutOfMemory}
use Rattle.tl_recover.proofs.LaterCores.{procedures, later_core}
use Rattle.tl_store.specs.Recovered.{IsReplyOf}
use Rattle.tl_store.proofs.RebuiltLemmas.{later_turns, goes_on_again}
use Rattle.tl_store.proofs.AgainLemmas.{replies_stay}
use Rattle.tl_store.proofs.recovering.drive.Goals as goal

pub returns-clause-later : goal.returns-clause-later
returns-clause-later c =
    let ended = c.finish.ensures.begins in
    (map caller ended.0, later_turns c.args.core.now.seen.past c.redrive.new.core.seen.past c.finish.new.core.seen.past ended.0 c.args.turns.now c.in_ok-redrive.ensures.turns ended.1)

pub returns-clause-fits : goal.returns-clause-fits
returns-clause-fits c = λ fits. c.finish.ensures.fits c.args.requests.now (c.in_ok-redrive.ensures.fits fits)

pub returns-clause-goes_on : goal.returns-clause-goes_on
returns-clause-goes_on c = goes_on_again c.args.core.now.seen c.redrive.new.core.seen c.finish.new.core.seen c.redrive.ensures.goes_on c.finish.ensures.goes_on

-- the replies that were stored are still those of their calls
pub returns-in_err-check_replies-clause-again : goal.returns-in_err-check_replies-clause-again
returns-in_err-check_replies-clause-again c = λ v to replies.
    let w = c.finish.new.core.seen in
    let begins = c.finish.ensures.begins in
    let on = goes_on_again c.args.core.now.seen c.redrive.new.core.seen w c.redrive.ensures.goes_on c.finish.ensures.goes_on in
    let grown : w.past ≡ begins.0 ++ v.past = begins.1 ∙ ap (λ p. begins.0 ++ p) (c.in_ok-redrive.ensures.same v to) in
    let asked = c.finish.ensures.fits c.args.requests.now (c.in_ok-redrive.ensures.fits to.asked_now) in
    let all : All (IsReplyOf w (pos c.args.stored.now.marks.seals)) c.args.stored.now.replies.items =
    replies_stay v c.args.core.now.seen w c.args.requests.now c.args.turns.now begins.0 (pos c.args.stored.now.marks.seals) c.args.stored.now.replies.items to on asked grown c.lemma_is_reached.ensures replies in
    let r = err_from_is_err_and c.from_residual-in_err-check_replies.result c.from_residual-in_err-check_replies.ensures.1 in
    rw (r.1, r.2) (subst IsOutOfMemory (sym (c.in_err-check_replies.ensures.again (rw c.as_slice.ensures.value all))) tt)

-- the core is that of the turns, at a later time
pub returns-clause-same : goal.returns-clause-same
returns-clause-same c = λ v to.
    let w = c.finish.new.core.seen in
    let begins = c.finish.ensures.begins in
    let on = goes_on_again c.args.core.now.seen c.redrive.new.core.seen w c.redrive.ensures.goes_on c.finish.ensures.goes_on in
    let grown : w.past ≡ begins.0 ++ v.past = begins.1 ∙ ap (λ p. begins.0 ++ p) (c.in_ok-redrive.ensures.same v to) in
    let asked = c.finish.ensures.fits c.args.requests.now (c.in_ok-redrive.ensures.fits to.asked_now) in record {
      later = later_core v c.args.core.now.seen w c.args.requests.now c.args.turns.now begins.0 to on asked grown c.lemma_is_reached.ensures;
      procedures = procedures v c.args.core.now.seen w c.args.requests.now c.args.turns.now begins.0 to on asked grown c.lemma_is_reached.ensures;
      at_rest = c.finish.ensures.done;
    }
