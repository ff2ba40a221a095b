use Rattle.std.proofs.Common.{refl, subst}
use Rattle.tl_lowering.specs.Naming.{IsThen}
use Rattle.tl_lowering.specs.declared.program.Expression.TheVariants as E
use Rattle.tl_lowering.specs.declared.program.Statement.TheVariants as S
use Rattle.tl_lowering.proofs.RegisterLemmas.{has_temporaries}
use Rattle.tl_lowering.proofs.WriteLemmas.{one_more_done}
use Rattle.tl_lowering.proofs.lowering.Lowering.computed.Goals as goal

pub returns-clause-named : goal.returns-clause-named
returns-clause-named c = record {
  node = c.in_ok-node.node;
  field = c.in_ok-node.field;
  update = c.in_ok-node.ensures.named;
  apart = c.in_ok-node.ensures.apart;
  room = c.in-Some.ensures.valid.0 refl;
  temporaries = has_temporaries c.in_ok-node.number _ _ _ c.from.ensures c.registers_of-needed.ensures c.in_ok-check_registers.ensures;
  behind =
      subst (λ x. IsThen c.args.done (S.Write c.in_ok-node.node c.in_ok-node.field (E.Value x)) c.in_ok-then.field-0) c.in-Some.ensures.value c.in_ok-then.ensures.named;
}

pub returns-clause-done : goal.returns-clause-done
returns-clause-done c = one_more_done c.in-Some.ensures.value c.in_ok-node.ensures.held c.requires.done c.in_ok-then.ensures.named c.in_ok-then.ensures.pair
