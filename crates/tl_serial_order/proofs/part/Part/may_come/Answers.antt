use Rattle.std.proofs.Common.{◌≡◌, ◌<◌, false, length, map, refl, sym, ap, ◌∙◌, subst, arith}
use Rattle.std.proofs.lemmas.List.{length-map}
use Rattle.tl_tree_locking.specs.Actions.{locked}
use Rattle.tl_serial_order.specs.Part.{IsPart, was_locked, is_held}
use Rattle.tl_serial_order.proofs.Marks.{marks, read_at}
use Rattle.tl_serial_order.proofs.Coming.{may_come-no_marks, may_come-locked, may_come-comes, comes_up-locked, comes_up-not_locked}
use Rattle.tl_tree_locking.proofs.MayComeLemmas.{comes, comes-root}
use Rattle.tl_serial_order.proofs.part.Part.may_come.Goals as goal
use Rattle.tl_serial_order.proofs.part.Part.may_come.Goals.{then-self-eq0-via-then-self-eq0, then-self-eq0-via-else-self-eq0+then-was_locked}

pub returns-then-self-eq0 : goal.returns-then-self-eq0
returns-then-self-eq0 c done part =
    let shape = c.args.shape.now in
    let ms = c.self.inside.marks.items in
    let ls = map was_locked ms in
    let hs = map is_held ms in
    let all = length-map ms was_locked in
    let own : IsPart (marks ls hs) done = subst (λ m. IsPart m done) (sym c.self.view_is) part in
    let size : length ls ≡ length shape = ap (λ m. length m.locked) c.self.view_is ∙ c.requires.nodes in
    elim c.then-self-eq0.branch [
      | then-self-eq0-via-then-self-eq0 w ↦
          sym (may_come-no_marks shape c.requires.tree ls hs size (omega (arith, c.self.invariant, w.if-self-eq0.true)) done own c.args.node c.requires.node)
      | then-self-eq0-via-else-self-eq0+then-was_locked w ↦
          let inside : c.args.node < length ls = omega (arith, c.requires.node) in
          let marked = read_at was_locked ms c.args.node c.args.node w.index.result.now w.was_locked.result refl (omega (arith, all, inside)) w.index.ensures w.was_locked.ensures in
          sym (may_come-locked shape done c.args.node (sym (own.locks c.args.node inside) ∙ sym marked ∙ w.if-was_locked.true))
    ]

pub loop-step-preserved : goal.loop-step-preserved
loop-step-preserved c =
    let shape = c.args.shape.now in
    let ms = c.self.inside.marks.items in
    let ls = map was_locked ms in
    let hs = map is_held ms in
    let all = length-map ms was_locked in
    let up = c.parent-step.result in
    let size : length ls ≡ length shape = ap (λ m. length m.locked) c.self.view_is ∙ c.requires.nodes in
    let inside = c.parent-step.ensures.inside in
    let marked = read_at was_locked ms up up c.index-in-loop-step.result.now c.was_locked-in-loop-step.result refl (omega (arith, all, size, inside)) c.index-in-loop-step.ensures c.was_locked-in-loop-step.ensures in (
      inside,
      λ done part.
          let own : IsPart (marks ls hs) done = subst (λ m. IsPart m done) (sym c.self.view_is) part in
          c.loop-step.invariant.1 done part
          ∙ comes_up-not_locked shape c.requires.tree ls hs size done own c.loop-step.step up (omega (arith, c.loop-step-test.true)) c.loop-step.invariant.0
          c.parent-step.ensures.parent inside (sym marked ∙ c.if-was_locked-2.false),
    )

-- the node itself isn't locked, so the nodes above it decide
pub returns-then-was_locked-2 : goal.returns-then-was_locked-2
returns-then-was_locked-2 c done part =
    let shape = c.args.shape.now in
    let ms = c.self.inside.marks.items in
    let ls = map was_locked ms in
    let hs = map is_held ms in
    let all = length-map ms was_locked in
    let up = c.parent-step.result in
    let own : IsPart (marks ls hs) done = subst (λ m. IsPart m done) (sym c.self.view_is) part in
    let size : length ls ≡ length shape = ap (λ m. length m.locked) c.self.view_is ∙ c.requires.nodes in
    let inside = c.parent-step.ensures.inside in
    let node_inside : c.args.node < length ls = omega (arith, c.requires.node) in
    let here = read_at was_locked ms c.args.node c.args.node c.index.result.now c.was_locked.result refl (omega (arith, all, node_inside)) c.index.ensures c.was_locked.ensures in
    let free : locked done c.args.node ≡ false = sym (own.locks c.args.node node_inside) ∙ sym here ∙ c.if-was_locked.false in
    let marked = read_at was_locked ms up up c.index-in-loop-step.result.now c.was_locked-in-loop-step.result refl (omega (arith, all, size, inside)) c.index-in-loop-step.ensures c.was_locked-in-loop-step.ensures in
    let kept = read_at is_held ms up up c.index-then-was_locked-2.result.now c.is_held.result refl (omega (arith, all, size, inside)) c.index-then-was_locked-2.ensures c.is_held.ensures in
    kept ∙ sym (may_come-comes shape done c.args.node free ∙ c.loop-step.invariant.1 done part
    ∙ comes_up-locked shape c.requires.tree ls hs size done own c.loop-step.step up (omega (arith, c.loop-step-test.true)) c.loop-step.invariant.0
    c.parent-step.ensures.parent inside (sym marked ∙ c.if-was_locked-2.true))

pub returns : goal.returns
returns c done part =
    let shape = c.args.shape.now in
    let ms = c.self.inside.marks.items in
    let ls = map was_locked ms in
    let hs = map is_held ms in
    let all = length-map ms was_locked in
    let own : IsPart (marks ls hs) done = subst (λ m. IsPart m done) (sym c.self.view_is) part in
    let size : length ls ≡ length shape = ap (λ m. length m.locked) c.self.view_is ∙ c.requires.nodes in
    let node_inside : c.args.node < length ls = omega (arith, size, c.requires.node) in
    let here = read_at was_locked ms c.args.node c.args.node c.index.result.now c.was_locked.result refl (omega (arith, all, node_inside)) c.index.ensures c.was_locked.ensures in
    let free : locked done c.args.node ≡ false = sym (own.locks c.args.node node_inside) ∙ sym here ∙ c.if-was_locked.false in
    let root : c.loop-step.step ≡ 0 = omega (arith, c.loop-step-test.false) in
    sym (may_come-comes shape done c.args.node free ∙ c.loop-step.invariant.1 done part ∙ ap (comes shape done) root ∙ comes-root shape done)
