use Rattle.std.proofs.Common.{arith}
use Rattle.tl_trail.proofs.ReadsBack.{added}
use Rattle.tl_trail.proofs.WrittenIsRead.{procedures_whole, procedures_shallow}
use Rattle.tl_trail.proofs.writing.push_procedures.Goals as goal

pub returns-clause-added : goal.returns-clause-added
returns-clause-added c =
    let procedures = c.args.procedures.now in
    added c.push_value.result _ _ _ _ c.in_ok-value.ensures.value (procedures_whole procedures) (omega (arith, procedures_shallow procedures)) c.push_value.ensures
