use Rattle.tl_lowering.proofs.BlockLemmas.{closing_value_of, closing_value_else_of, closing_nodes_of}
use Rattle.tl_lowering.proofs.JoinLemmas.{binds_value_of, binds_value_else_of, binds_nodes_of}
use Rattle.tl_lowering.proofs.lowering.Lowering.wrapped.Goals as goal

pub returns-in-Value : goal.returns-in-Value
returns-in-Value c = record {
  named = rw c.in-Value.is (binds_value_of c.in_ok-rest.ensures);
  closing = rw c.in-Value.is (closing_value_of c.in-Value.register c.in-Value.number c.args.rest c.in_ok-rest.rest.value c.in_ok-rest.ensures);
}

pub returns-in_ok-otherwise-in-ValueElse : goal.returns-in_ok-otherwise-in-ValueElse
returns-in_ok-otherwise-in-ValueElse c = record {
  named = rw c.in-ValueElse.is (binds_value_else_of c.in_ok-rest.ensures c.in_ok-otherwise-in-ValueElse.ensures);
  closing =
      let b = c.in-ValueElse in let o = c.in_ok-otherwise-in-ValueElse in
      rw b.is (closing_value_else_of b.register b.number c.args.rest b.otherwise c.in_ok-rest.rest.value o.otherwise.value c.in_ok-rest.ensures o.ensures);
}

pub returns-in_ok-otherwise-in-Nodes : goal.returns-in_ok-otherwise-in-Nodes
returns-in_ok-otherwise-in-Nodes c = record {
  named = rw c.in-Nodes.is (binds_nodes_of c.in_ok-rest.ensures c.in_ok-otherwise-in-Nodes.ensures);
  closing =
      let b = c.in-Nodes in let o = c.in_ok-otherwise-in-Nodes in
      rw b.is (closing_nodes_of b.place c.args.rest b.otherwise c.in_ok-rest.rest.value o.otherwise.value c.in_ok-rest.ensures o.ensures);
}
