use Rattle.tl_lowering.specs.Entering.{before_of}
use Rattle.std.proofs.Common.{◌≡◌, ◌∙◌, refl, arith}
use Rattle.tl_lowering.proofs.EnterLemmas.{node_enters}
use Rattle.tl_lowering.proofs.NumberLemmas.{node_locks}
use Rattle.tl_lowering.proofs.lowering.Lowering.node_place.Goals as goal

pub returns-clause-named : goal.returns-clause-named
returns-clause-named c =
    let next : c.in_ok-register.register ≡ c.args.self.now.scope.nodes = omega arith in
    node_locks c.in_ok-check_new.ensures (omega (arith, c.in_ok-register.ensures.room)) next c.in_ok-number.ensures.named c.in_ok-number.ensures.room

pub returns-clause-entering : goal.returns-clause-entering
returns-clause-entering c = node_enters (before_of c.args.held) _ c.in_ok-register.register c.in_ok-number.number refl c.if-held.false c.entered.ensures.entered (c.entered.ensures.passed ∙ c.with.ensures.passed)
