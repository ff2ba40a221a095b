use Rattle.std.proofs.Common.{◌≡◌, refl, arith}
use Rattle.tl_lowering.specs.Choosing.{visited}
use Rattle.tl_lowering.proofs.lowering.Lowering.visit.Goals as goal

pub returns-clause-named : goal.returns-clause-named
returns-clause-named c =
    let child : c.in_ok-child.child ≡ c.args.self.now.scope.nodes = omega arith in
    visited c.in_ok-check_depth.ensures c.in_ok-check_names.ensures.named (omega (arith, c.in_ok-child.ensures.room)) (omega arith) refl refl child c.in_ok-index.ensures.register c.in_ok-owner.ensures.meaning c.in_ok-turns.ensures
