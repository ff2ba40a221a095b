use Rattle.std.proofs.Common.{◌∙◌, ap, subst, arith}
use Rattle.std.proofs.lemmas.List.{take_all}
use Rattle.tl_lowering.specs.Names.{names_of, with_values, AreNew}
use Rattle.tl_lowering.specs.Scopes.{view_of}
use Rattle.tl_lowering.proofs.TextLemmas.{argument_more, more_new}
use Rattle.tl_lowering.proofs.lowering.Lowering.declare_arguments.Goals as goal

pub loop-name-preserved : goal.loop-name-preserved
loop-name-preserved c =
    let so_far = c.loop-name.invariant in
    let more = c.in_ok-declare_value.ensures in
    record {
      named = argument_more (names_of c.args.self.now.scope) c.args.names.now c.loop-name.name-index _ (omega arith) so_far.named more.named;
      fresh = more_new (names_of c.args.self.now.scope) c.args.names.now c.loop-name.name-index _ (omega arith) so_far.named c.in_ok-check_new.ensures so_far.fresh;
      names = more.in_use so_far.names;
      values = omega (arith, more.values, c.from.ensures);
      nodes = more.nodes ∙ so_far.nodes;
      loops = more.loops ∙ so_far.loops;
      extends = more.names (view_of c.args.self.now.scope) c.in_ok-check_new.ensures so_far.extends;
    }

pub returns-clause-named : goal.returns-clause-named
returns-clause-named c = c.loop-name.invariant.named ∙ ap (with_values (names_of c.args.self.now.scope)) (take_all c.loop-name.name-index c.args.names.now (omega arith))

pub returns-clause-fresh : goal.returns-clause-fresh
returns-clause-fresh c = subst (AreNew (names_of c.args.self.now.scope)) (take_all c.loop-name.name-index c.args.names.now (omega arith)) c.loop-name.invariant.fresh
