use Rattle.std.proofs.Common.{◌∙◌, ◌<◌, sym, ap, subst, arith}
use Rattle.std.specs.Prelude.{get_or, slice_set}
use Rattle.tl_lowering.specs.declared.scope.Meaning.TheVariants as M
use Rattle.tl_lowering.specs.Names.{Names}
use Rattle.tl_lowering.specs.Paths.{nodes_of}
use Rattle.tl_lowering.specs.Sets.{holds, with_node}
use Rattle.tl_lowering.specs.Blocks.{AreFree}
use Rattle.tl_lowering.proofs.BitLemmas.{length_bits}
use Rattle.tl_lowering.proofs.ScopeLemmas.{alias_in_use, same_numbers}
use Rattle.tl_lowering.proofs.GivenLemmas.{HoldsNamed, alias_names, unnamed, in_use_outside}
use Rattle.tl_lowering.proofs.lowering.Lowering.give_node.Goals as goal

pub returns-clause-given : goal.returns-clause-given
returns-clause-given c = record {
  called = c.in-Named.called;
  register = c.in_ok-register.register;
  form_is = c.in-Named.is;
  node_is = c.in_ok-register.ensures.meaning;
  fresh = c.in_ok-check_new.ensures;
  unnamed = λ i. unnamed c.args.self.now.scope.meanings.items (nodes_of c.args.named) c.in_ok-register.register i c.requires.named (sym c.holds.ensures ∙ c.if-holds.false);
  later_is = c.in_ok-declare_alias.ensures.named;
}

pub returns-clause-at : goal.returns-clause-at
returns-clause-at c =
    let r = c.in_ok-register.register in
    let scope = c.args.self.now.scope in
    let later = c.in_ok-declare_alias.ensures in
    let below : r < c.args.outer.now.nodes = in_use_outside c.args.outer.now.values c.args.outer.now.nodes _ r (c.requires.outer.below c.in-Named.called.symbol.0) c.in_ok-register.ensures.meaning in
    let lt : r < scope.nodes = omega (arith, c.requires.nodes) in
    record {
      names = same_numbers scope.values scope.nodes _ _ _ _ (alias_in_use scope.values scope.nodes scope.meanings.items c.args.name.symbol.0 r lt (λ i. unnamed scope.meanings.items (nodes_of c.args.named) r i c.requires.named (sym c.holds.ensures ∙ c.if-holds.false)) c.requires.at.names) later.values later.nodes (ap (λ (n : Names). n.meanings) later.named);
      nodes = subst (λ m. AreFree m (nodes_of c.args.held)) (sym later.nodes) c.requires.at.nodes;
    }

pub returns-clause-named : goal.returns-clause-named
returns-clause-named c =
    let r = c.in_ok-register.register in
    let ms = c.args.self.now.scope.meanings.items in
    let few : r < 8 = omega arith in
    let all : HoldsNamed (slice_set ms c.args.name.symbol.0 (M.Node r)) (with_node (nodes_of c.args.named) r) = alias_names ms (nodes_of c.args.named) c.args.name.symbol.0 r (omega (arith, few, length_bits c.args.named.nodes)) c.requires.named in
    λ i n e.
    ap (λ h. holds h n) c.with.ensures.nodes
    ∙ all i n (ap (λ (m : Names). get_or m.meanings i M.Nothing) (sym c.in_ok-declare_alias.ensures.named) ∙ e)
