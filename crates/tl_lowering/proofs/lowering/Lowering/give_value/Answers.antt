use Rattle.std.proofs.Common.{◌∙◌, sym, ap, subst, rules}
use Rattle.std.specs.Prelude.{get_or}
use Rattle.tl_lowering.specs.declared.scope.Meaning.TheVariants as M
use Rattle.tl_lowering.specs.Blocks.{AreFree}
use Rattle.tl_lowering.specs.Names.{Names}
use Rattle.tl_lowering.specs.Paths.{nodes_of}
use Rattle.tl_lowering.specs.Scopes.{view_of}
use Rattle.tl_lowering.proofs.GivenLemmas.{value_names}
use Rattle.tl_lowering.proofs.RegisterLemmas.{has_temporaries}
use Rattle.tl_lowering.proofs.WriteLemmas.{readable_more}
use Rattle.tl_lowering.proofs.lowering.Lowering.give_value.Goals as goal

pub returns-clause-given : goal.returns-clause-given
returns-clause-given c = record {
  fresh = c.in_ok-check_new.ensures;
  room = c.in_ok-register.ensures.room;
  number_is = c.in_ok-number.ensures.named;
  fits = has_temporaries c.in_ok-number.number _ _ _ (search rules) c.registers_of.ensures c.in_ok-check_registers.ensures;
  later_is = c.in_ok-declare_value.ensures.named;
}

pub returns-clause-readable : goal.returns-clause-readable
returns-clause-readable c = readable_more c.in_ok-number.number c.args.outer.now.values c.args.self.now.scope.values (nodes_of c.args.held) c.requires.values c.in_ok-number.ensures.readable

pub returns-clause-at : goal.returns-clause-at
returns-clause-at c = record {
  names = c.in_ok-declare_value.ensures.in_use c.requires.at.names;
  nodes = subst (λ m. AreFree m (nodes_of c.args.held)) (sym c.in_ok-declare_value.ensures.nodes) c.requires.at.nodes;
}

pub returns-clause-named : goal.returns-clause-named
returns-clause-named c = λ i n e.
    value_names (view_of c.args.self.now.scope).meanings c.args.name.symbol.0 c.args.self.now.scope.values i n
    (ap (λ (m : Names). get_or m.meanings i M.Nothing) (sym c.in_ok-declare_value.ensures.named) ∙ e)
