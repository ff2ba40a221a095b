use Rattle.std.proofs.Common.{◌≡◌, [], length, drop, subst, arith}
use Rattle.std.proofs.Math.Seq.{drop-length}
use Rattle.tl_recover.specs.Redriven.{AreTurnsTo}
use Rattle.tl_recover.proofs.Retaken.{arrived}
use Rattle.tl_recover.proofs.redriving.redrive.Goals as goal

pub returns-clause-same : goal.returns-clause-same
returns-clause-same c = λ v to.
    let all : c.loop-call.call-index ≡ length c.args.turns.now = omega arith in
    let none : drop c.loop-call.call-index c.args.turns.now ≡ [] = rw all (drop-length c.args.turns.now) in
    arrived v c.loop-call.core.seen c.args.requests.now (subst (AreTurnsTo v c.loop-call.core.seen c.args.requests.now) none (c.loop-call.invariant.3 v to)) c.lemma_is_reached.ensures
