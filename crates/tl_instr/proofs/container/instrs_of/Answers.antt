use Rattle.std.proofs.lemmas.Result.{err_from_is_err_and}
use Rattle.tl_instr.proofs.Walk.{one_walked, first_bad}
use Rattle.tl_instr.proofs.container.instrs_of.Goals as goal

pub returns-in_err-instr_at-clause-fault : goal.returns-in_err-instr_at-clause-fault
returns-in_err-instr_at-clause-fault c =
    let p = err_from_is_err_and c.from_residual-in_err-instr_at.result c.from_residual-in_err-instr_at.ensures.1 in
    rw (p.1, p.2) (λ _. first_bad c.args.bytes.now c.args.version c.args.count c.loop-position.position c.in_err-instr_at.field-0.0 c.requires.framed c.requires.version c.requires.counted c.loop-position-test.true c.loop-position.invariant.before c.in_err-instr_at.ensures)

pub loop-position-preserved : goal.loop-position-preserved
loop-position-preserved c =
    rw c.in_ok-push.ensures.items (one_walked c.args.bytes.now c.args.version c.args.count c.loop-position.position c.loop-position.instrs.items c.in_ok-instr_at.field-0 c.loop-position.invariant c.in_ok-instr_at.ensures.0 c.in_ok-instr_at.ensures.1)
