use Rattle.std.proofs.Common.{arith}
use Rattle.tl_trail.proofs.ReadsBack.{added}
use Rattle.tl_trail.proofs.WrittenIsRead.{calls_whole, calls_shallow}
use Rattle.tl_trail.proofs.writing.push_calls.Goals as goal

pub returns-clause-added : goal.returns-clause-added
returns-clause-added c =
    let t = c.args.trail.now in
    added c.push_value.result _ _ _ _ c.in_ok-calls.ensures.value (calls_whole t.procedures t.calls) (omega (arith, calls_shallow t.procedures t.calls)) c.push_value.ensures
