use Rattle.tl_lowering.specs.Entering.{before_of}
use Rattle.tl_lowering.specs.Sets.{without_node}
use Rattle.std.proofs.Common.{◌≡◌, ◌∙◌, refl, ap, arith}
use Rattle.tl_lowering.proofs.EnterLemmas.{child_enters}
use Rattle.tl_lowering.proofs.NumberLemmas.{child_locks}
use Rattle.tl_lowering.proofs.lowering.Lowering.child_place.Goals as goal

pub returns-clause-named : goal.returns-clause-named
returns-clause-named c =
    let next : c.in_ok-register.register ≡ c.args.self.now.scope.nodes = omega arith in
    child_locks c.in_ok-check_new.ensures (omega (arith, c.in_ok-register.ensures.room)) next c.in_ok-parent.ensures.meaning c.in_ok-number.ensures.named c.in_ok-number.ensures.room

pub returns-clause-entering : goal.returns-clause-entering
returns-clause-entering c =
    child_enters (before_of c.args.held) _ c.in_ok-register.register c.in_ok-parent.parent c.in_ok-number.number refl (c.with.ensures.entered ∙ c.visiting.ensures.entered)
    (c.with.ensures.passed ∙ ap (λ p. without_node p c.in_ok-register.register) c.visiting.ensures.passed)
