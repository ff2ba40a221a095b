use Rattle.tl_lowering.specs.Entering.{before_of}
use Rattle.tl_lowering.specs.Scopes.{view_of}
use Rattle.tl_lowering.proofs.RegisterLemmas.{has_registers}
use Rattle.tl_lowering.proofs.EnterLemmas.{failing_as}
use Rattle.tl_lowering.proofs.NamingLemmas.{lowered_write}
use Rattle.tl_lowering.specs.Naming.{one_write}
use Rattle.tl_lowering.proofs.lowering.Lowering.write.Goals as goal

pub returns : goal.returns
returns c = record {
  named = one_write c.in_ok-node.ensures.named (has_registers c.in_ok-node.number _ _ _ c.from.ensures c.registers_for-needed.ensures c.in_ok-check_registers.ensures);
  lowered =
      lowered_write (view_of c.args.self.now.scope) c.args.held c.in_ok-node.node c.in_ok-node.field c.in_ok-node.number c.may_fail.result c.on.result c.failing_if-flow.result
      c.in_ok-node.ensures.held c.in_ok-node.ensures.readable c.may_fail.ensures c.on.ensures.paths c.failing_if-flow.ensures.paths;
  entering = record { once = tt; paths = failing_as c.may_fail.result (before_of c.args.held) c.may_fail.ensures c.on.ensures.entered c.failing_if-flow.ensures.entered };
}
