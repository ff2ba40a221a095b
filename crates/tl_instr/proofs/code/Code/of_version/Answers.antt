use Rattle.std.proofs.Common.{rules, sym}
use Rattle.tl_instr.specs.Versions.{HasInstr}
use Rattle.tl_instr.specs.Instructions.{GoesWithin}
use Rattle.tl_instr.proofs.Codes.{one_more, is_code}
use Rattle.tl_instr.proofs.code.Code.of_version.Goals as goal

pub loop-position-preserved : goal.loop-position-preserved
loop-position-preserved c =
    let within : GoesWithin c.len-2.result c.index.result.now = search rules in
    let has : HasInstr c.args.version c.index.result.now = search rules in
    one_more c.args.version c.len-2.result c.args.instrs.items c.loop-position.position c.index.result.now (search rules) (search rules) c.loop-position.invariant c.cell-cell.ensures.in_range within has

pub invariant_of-result : goal.invariant_of-result
invariant_of-result c = record {
  valid = is_code c.args.version c.in_ok-arity.arity c.len-2.result c.loop-position.position c.args.instrs.items (search rules) (search rules) c.loop-position-test.false (search rules) (search rules) c.loop-position.invariant;
  same = rw (sym c.deref.ensures.value) c.in_ok-container.ensures.spelled;
}

pub returns-clause-valid : goal.returns-clause-valid
returns-clause-valid c = is_code c.args.version c.args.arity c.len-2.result c.loop-position.position c.args.instrs.items (search rules) (search rules) c.loop-position-test.false (search rules) (search rules) c.loop-position.invariant
