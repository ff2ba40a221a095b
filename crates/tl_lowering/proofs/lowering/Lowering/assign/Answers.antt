use Rattle.tl_lowering.specs.Entering.{before_of}
use Rattle.tl_lowering.specs.Scopes.{view_of}
use Rattle.tl_lowering.proofs.RegisterLemmas.{has_temporaries}
use Rattle.tl_lowering.proofs.EnterLemmas.{failing_as}
use Rattle.tl_lowering.proofs.NamingLemmas.{lowered_assign}
use Rattle.tl_lowering.specs.Naming.{assigns}
use Rattle.tl_lowering.proofs.lowering.Lowering.assign.Goals as goal

pub returns : goal.returns
returns c = record {
  named = assigns c.in_ok-register.ensures.named c.in_ok-operand.ensures.named c.in_ok-number.ensures.named
      (has_temporaries c.in_ok-number.number _ _ _ c.from.ensures c.registers_of-needed.ensures c.in_ok-check_registers.ensures);
  lowered =
      let below = c.in_ok-register.ensures.in_use c.requires.names in
      lowered_assign (view_of c.args.self.now.scope) c.args.held c.in_ok-register.register c.in_ok-number.number c.may_fail.result c.on.result c.failing_if-flow.result
      below (c.in_ok-number.ensures.readable _ _ below c.in_ok-operand.ensures.readable) c.may_fail.ensures c.on.ensures.paths c.failing_if-flow.ensures.paths;
  entering = record { once = tt; paths = failing_as c.may_fail.result (before_of c.args.held) c.may_fail.ensures c.on.ensures.entered c.failing_if-flow.ensures.entered };
}
