use Rattle.tl_verify.proofs.ProcedureLemmas.{only_memory}
use Rattle.tl_verify.proofs.procedure.verify.Goals as goal

pub returns-in-Err-clause-accepts : goal.returns-in-Err-clause-accepts
returns-in-Err-clause-accepts c acc = only_memory c.args.code.instrs acc c.in-Err.fault c.in-Err.ensures.fault
