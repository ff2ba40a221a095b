use Rattle.std.proofs.lemmas.Result.{err_from_is_err_and}
use Rattle.tl_verify.proofs.ProcedureLemmas.{accepted, loops_fault, over_is_first}
use Rattle.tl_verify.proofs.procedure.examine.Goals as goal

pub returns-in_err-loops-clause-fault : goal.returns-in_err-loops-clause-fault
returns-in_err-loops-clause-fault c =
    let p = err_from_is_err_and c.from_residual.result c.from_residual.ensures.1 in
    rw (p.1, p.2) (loops_fault c.args.code.now.instrs c.in_err-loops.field-0.0 c.in_err-loops.ensures.fault)

pub returns-in_err-sums-clause-fault : goal.returns-in_err-sums-clause-fault
returns-in_err-sums-clause-fault c =
    let p = err_from_is_err_and c.from_residual-in_err-sums.result c.from_residual-in_err-sums.ensures.1 in
    let ahead = rw (c.instrs.ensures.value) at c.in_default.ensures.ahead in
    let fit = rw (c.in_default-2.is, c.instrs-2.ensures.value) at c.in_ok-fault.ensures in
    rw (p.1, p.2) (λ _. over_is_first c.args.code.now.instrs ahead fit c.in_err-sums.field-0.0 c.in_err-sums.ensures.over)

pub returns-clause-accepted : goal.returns-clause-accepted
returns-clause-accepted c =
    let ahead = rw (c.instrs.ensures.value) at c.in_default.ensures.ahead in
    let fit = rw (c.in_default-2.is, c.instrs-2.ensures.value) at c.in_ok-fault.ensures in
    accepted c.args.code.now.instrs c.in_ok-loops.ensures.nest.nested ahead fit c.in_ok-sums.ensures.within
