use Rattle.std.proofs.Common.{◌≡◌, ◌≢◌, ◌<◌, refl, true, false, not, Some, None, length, get_or, sym, ap, ◌∙◌, arith}
use Rattle.std.specs.Prelude.{slice_get}
use Rattle.std.proofs.lemmas.Bool.{both_ways}
use Rattle.tl_tree.specs.Shape.{parent}
use Rattle.tl_tree_locking.specs.Holders.{holder_of}
use Rattle.tl_tree_locking.specs.Placing.{is_call, under_of, coming_calls, held_below}
use Rattle.tl_tree_locking.proofs.Ancestors.{parent-lower}
use Rattle.tl_tree_locking.proofs.PlacingLemmas.{is_call-some, some-is_call, option_eq-call, climb_on, climb_found, coming_calls-root, coming_calls-stop, held_below-grows, held_below-one}
use Rattle.tl_serial_order.proofs.HeldNodes.{held_below-all}
use Rattle.tl_serial_order.proofs.climb.nearest_coming.Goals as goal

pub loop-step-init : goal.loop-step-init
loop-step-init c = (
  c.requires.node,
  λ past hold last.
      let all = held_below-all c.args.holders.now past hold c.args.node (omega (arith, c.requires.holders, c.requires.node)) in
      (refl, omega (arith, all, c.requires.held_count)),
)

pub returns-then-ne : goal.returns-then-ne
returns-then-ne c past hold last =
    let shape = c.args.shape.now in
    let x = c.loop-step.step in
    let up = c.parent-above.ensures.parent in
    let inside : parent shape x < length c.args.holders.now = omega (arith, c.requires.holders, c.parent-above.ensures.inside, up) in
    let holds : holder_of past (parent shape x) ≡ Some c.in-Some.call = sym (hold (parent shape x) inside) ∙ ap (λ k. get_or c.args.holders.now k None) (sym up) ∙ sym c.at.ensures.call ∙ c.in-Some.is in
    let below : x < length c.args.under.now = omega (arith, c.requires.under, c.loop-step.invariant.0) in
    let tested : c.ne.result ≡ not (is_call (get_or c.args.under.now x None) c.in-Some.call) =
    c.ne.ensures ∙ ap not (option_eq-call c.at-in-Some.result c.in-Some.call) ∙ ap (λ entry. not (is_call entry c.in-Some.call)) c.at-in-Some.ensures.call in
    let apart : under_of shape past x ≢ Some c.in-Some.call = λ u.
    let t = some-is_call (get_or c.args.under.now x None) c.in-Some.call (last x below ∙ u) in
    let n : c.ne.result ≡ false = tested ∙ ap not t in
    both_ways c.ne.result n c.if-ne.true in
    sym (ap (λ calls. slice_get calls 0) ((c.loop-step.invariant.1 past hold last).0 ∙ climb_found shape c.requires.tree past x c.in-Some.call c.loop-step-test.true holds apart))

pub loop-step-preserved-else-ne : goal.loop-step-preserved-else-ne
loop-step-preserved-else-ne c =
    let shape = c.args.shape.now in
    let x = c.loop-step.step in
    let up = c.parent-above.ensures.parent in (
      c.parent-above.ensures.inside,
      λ past hold last.
          let inside : parent shape x < length c.args.holders.now = omega (arith, c.requires.holders, c.parent-above.ensures.inside, up) in
          let holds : holder_of past (parent shape x) ≡ Some c.in-Some.call = sym (hold (parent shape x) inside) ∙ ap (λ k. get_or c.args.holders.now k None) (sym up) ∙ sym c.at.ensures.call ∙ c.in-Some.is in
          let below : x < length c.args.under.now = omega (arith, c.requires.under, c.loop-step.invariant.0) in
          let tested : c.ne.result ≡ not (is_call (get_or c.args.under.now x None) c.in-Some.call) =
          c.ne.ensures ∙ ap not (option_eq-call c.at-in-Some.result c.in-Some.call) ∙ ap (λ entry. not (is_call entry c.in-Some.call)) c.at-in-Some.ensures.call in
          let t : is_call (get_or c.args.under.now x None) c.in-Some.call ≡ true = let no' = c.if-ne.false in grind (arith, tested, no') in
          let shut : under_of shape past x ≡ Some c.in-Some.call = sym (last x below) ∙ is_call-some (get_or c.args.under.now x None) c.in-Some.call t in
          let so_far = c.loop-step.invariant.1 past hold last in
          let fewer = held_below-one past (parent shape x) x c.in-Some.call (parent-lower shape c.requires.tree x c.loop-step-test.true) holds in
          let here = ap (λ y. held_below y past) (sym up) in (
            so_far.0
                ∙ climb_on shape c.requires.tree past x c.loop-step-test.true (λ d h. shut ∙ sym holds ∙ h)
                ∙ ap (coming_calls shape past) (sym up),
            omega (arith, so_far.1, fewer, here),
          ),
    )

pub loop-step-preserved : goal.loop-step-preserved
loop-step-preserved c =
    let shape = c.args.shape.now in
    let x = c.loop-step.step in
    let up = c.parent-above.ensures.parent in (
      c.parent-above.ensures.inside,
      λ past hold last.
          let inside : parent shape x < length c.args.holders.now = omega (arith, c.requires.holders, c.parent-above.ensures.inside, up) in
          let so_far = c.loop-step.invariant.1 past hold last in
          let low = parent-lower shape c.requires.tree x c.loop-step-test.true in
          let fewer = held_below-grows past (parent shape x) x (omega (arith, low)) in
          let here = ap (λ y. held_below y past) (sym up) in (
            so_far.0
                ∙ climb_on shape c.requires.tree past x c.loop-step-test.true (λ d h. absurd (c.in_default.not-Some d (c.at.ensures.call ∙ ap (λ k. get_or c.args.holders.now k None) up ∙ hold (parent shape x) inside ∙ h)))
                ∙ ap (coming_calls shape past) (sym up),
            omega (arith, so_far.1, fewer, here),
          ),
    )

-- no held node is left
pub returns-else-left-gt0 : goal.returns-else-left-gt0
returns-else-left-gt0 c past hold last =
    let shape = c.args.shape.now in
    let so_far = c.loop-step.invariant.1 past hold last in
    let none : held_below c.loop-step.step past ≡ 0 = omega (arith, so_far.1, c.if-left-gt0.false) in
    sym (ap (λ calls. slice_get calls 0) (so_far.0 ∙ coming_calls-stop shape c.requires.tree past c.loop-step.step none))

pub returns-after-loop-step : goal.returns-after-loop-step
returns-after-loop-step c past hold last =
    let shape = c.args.shape.now in
    let root : c.loop-step.step ≡ 0 = omega (arith, c.loop-step-test.false) in
    sym (ap (λ calls. slice_get calls 0) ((c.loop-step.invariant.1 past hold last).0 ∙ ap (coming_calls shape past) root ∙ coming_calls-root shape past))
