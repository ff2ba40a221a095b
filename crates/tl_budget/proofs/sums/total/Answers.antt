use Rattle.std.proofs.Common.{◌*◌, ap, ◌≡◌, get_or, Some, arith, rules}
use Rattle.std.specs.Prelude.{slice_get}
use Rattle.std.proofs.lemmas.Option.{slice_get_read, MatchOption-at_none}
use Rattle.tl_budget.specs.Loops.{is_any, is_lock, is_emit}
use Rattle.tl_budget.proofs.WeightSums.{weighs, room_for_one, turned_small, one_more, opened, passed}
use Rattle.tl_budget.proofs.sums.total.Goals as goal
use Rattle.tl_budget.proofs.sums.total.Goals.{in-Some, in_default}

pub overflow_mul-products : goal.overflow_mul-products
overflow_mul-products c =
    let code = c.args.code.now.instrs in
    let p = c.loop-position.position in
    let i = c.index-instrs-from.result in
    let at : slice_get code p ≡ Some i = slice_get_read code c.count-position-end.result p i c.count-position-end.ensures.value c.loop-position-test.true (search rules) in
    let here = weighs code c.args.nest.now p c.depth_at-depth.result c.loop-position.products c.requires (search rules) (search rules) c.loop-position.invariant.around in
    let small = turned_small code p c.in-Some.turns i c.loop-position.products c.depth_at-depth.result c.requires.nested at c.in-Some.ensures (search rules) here.deep c.loop-position.invariant.around in
    let same : get_or c.loop-position.products c.depth_at-depth.result 0 * c.from-in-Some.result ≡ get_or c.loop-position.products c.depth_at-depth.result 0 * c.in-Some.turns = ap (λ n. get_or c.loop-position.products c.depth_at-depth.result 0 * n) c.from-in-Some.ensures in
    record { fits = omega arith }

pub bounds-products-depth-in-Some : goal.bounds-products-depth-in-Some
bounds-products-depth-in-Some c =
    let code = c.args.code.now.instrs in
    let p = c.loop-position.position in
    let i = c.index-instrs-from.result in
    let at : slice_get code p ≡ Some i = slice_get_read code c.count-position-end.result p i c.count-position-end.ensures.value c.loop-position-test.true (search rules) in
    let here = weighs c.args.code.now.instrs c.args.nest.now c.loop-position.position c.depth_at-depth.result c.loop-position.products c.requires (search rules) (search rules) c.loop-position.invariant.around in
    let room = room_for_one code p c.in-Some.turns i c.depth_at-depth.result c.requires.nested at c.in-Some.ensures here.deep in
    omega arith

pub loop-position-preserved : goal.loop-position-preserved
loop-position-preserved c =
    let code = c.args.code.now.instrs in
    let p = c.loop-position.position in
    let i = c.index-instrs-from.result in
    let at : slice_get code p ≡ Some i = slice_get_read code c.count-position-end.result p i c.count-position-end.ensures.value c.loop-position-test.true (search rules) in
    let here = weighs code c.args.nest.now p c.depth_at-depth.result c.loop-position.products c.requires (search rules) (search rules) c.loop-position.invariant.around in
    let w = get_or c.loop-position.products c.depth_at-depth.result 0 in
    record {
      around = elim c.match-turns_of.branch [
        | in-Some w ↦ rw w.products-is (opened code p w.in-Some.turns i c.loop-position.products c.depth_at-depth.result _ c.requires.nested at w.in-Some.ensures (search rules) here.deep (search rules) c.loop-position.invariant.around)
        | in_default w ↦ rw w.products-is (passed code p i c.loop-position.products c.requires.nested at (MatchOption-at_none _ _ w.in_default.is c.turns_of.ensures) c.loop-position.invariant.around)
      ];
      steps = one_more code is_any p c.loop-position.totals.steps i w c.with-totals.result.steps at here.weight c.with-totals.ensures.steps c.loop-position.invariant.steps;
      locks = one_more code is_lock p c.loop-position.totals.locks i w c.with-totals.result.locks at here.weight c.with-totals.ensures.locks c.loop-position.invariant.locks;
      emits = one_more code is_emit p c.loop-position.totals.emits i w c.with-totals.result.emits at here.weight c.with-totals.ensures.emits c.loop-position.invariant.emits;
    }
