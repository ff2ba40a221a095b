use Rattle.std.proofs.Common.{◌∙◌, sym, ap, subst, arith}
use Rattle.std.specs.Prelude.{get_or}
use Rattle.tl_lowering.specs.declared.scope.Meaning.TheVariants as M
use Rattle.tl_lowering.specs.Blocks.{AreFree}
use Rattle.tl_lowering.specs.Names.{Names}
use Rattle.tl_lowering.specs.Paths.{nodes_of}
use Rattle.tl_lowering.specs.Scopes.{view_of}
use Rattle.tl_lowering.proofs.GivenLemmas.{value_names}
use Rattle.tl_lowering.proofs.lowering.Lowering.give_variable.Goals as goal

pub declare_variable-requires : goal.declare_variable-requires
declare_variable-requires c = omega (arith, c.in_ok-register.ensures.in_use c.requires.outer, c.requires.values)

pub returns-clause-given : goal.returns-clause-given
returns-clause-given c = record {
  called = c.in-Named.called;
  register = c.in_ok-register.register;
  form_is = c.in-Named.is;
  value_is = c.in_ok-register.ensures.named;
  fresh = c.in_ok-check_new.ensures;
  later_is = c.in_ok-declare_variable.ensures.named;
}

pub returns-clause-at : goal.returns-clause-at
returns-clause-at c = record {
  names = c.in_ok-declare_variable.ensures.in_use c.requires.at.names;
  nodes = subst (λ m. AreFree m (nodes_of c.args.held)) (sym c.in_ok-declare_variable.ensures.nodes) c.requires.at.nodes;
}

pub returns-clause-named : goal.returns-clause-named
returns-clause-named c = λ i n e.
    value_names (view_of c.args.self.now.scope).meanings c.args.name.symbol.0 c.in_ok-register.register i n
    (ap (λ (m : Names). get_or m.meanings i M.Nothing) (sym c.in_ok-declare_variable.ensures.named) ∙ e)
