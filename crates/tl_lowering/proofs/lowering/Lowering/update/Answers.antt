use Rattle.tl_lowering.proofs.lowering.Lowering.update.Goals as goal

pub returns-clause-named : goal.returns-clause-named
returns-clause-named c = record {
  operand = c.in_ok-operand.operand;
  node_is = c.in_ok-node.ensures.meaning;
  field_is = c.in_ok-field.ensures;
  operand_is = c.in_ok-operand.ensures.named;
  new_is = c.in_ok-number.ensures.named;
}

pub returns-clause-readable : goal.returns-clause-readable
returns-clause-readable c = let held = c.in_ok-node.ensures.held in c.in_ok-number.ensures.readable _ _ held c.in_ok-operand.ensures.readable
