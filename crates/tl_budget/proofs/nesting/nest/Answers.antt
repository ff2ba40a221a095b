use Rattle.std.proofs.Common.{rules, ◌≡◌, ◌<◌, length, Some, ap, ◌∙◌, arith, vec_len}
use Rattle.std.specs.Prelude.{slice_get, option_map}
use Rattle.std.proofs.lemmas.Option.{slice_get_read, MatchOption-at_none}
use Rattle.std.proofs.lemmas.Result.{err_from_is_err_and}
use Rattle.tl_budget.specs.Loops.{Opens, Closes, kind, kind_at}
use Rattle.tl_budget.proofs.NestLemmas.{marks}
use Rattle.tl_budget.proofs.NestingWalk.{placed_here, opens_before, neither, walked_in, not_in, walked_out, not_out, walked_on, walked_through, left_open, only_memory}
use Rattle.tl_budget.proofs.nesting.nest.Goals as goal
use Rattle.tl_budget.proofs.nesting.nest.Goals.{in-Some+in_ok-enter, in_default-turns_of+in-End+in_ok-opening, in_default-turns_of+in_default-instr}

pub returns-in_err-opening-clause-fault : goal.returns-in_err-opening-clause-fault
returns-in_err-opening-clause-fault c =
    let code = c.args.code.now.instrs in
    let p = c.loop-position.position in
    let at : slice_get code p ≡ Some c.index-instrs-from.result = slice_get_read code c.count-position-end.result p c.index-instrs-from.result c.count-position-end.ensures.value c.loop-position-test.true (search rules) in
    let closes : kind_at code p ≡ Some Closes = ap (option_map kind) at ∙ ap (λ i. Some (kind i)) c.in-End.is in
    let r = err_from_is_err_and c.from_residual-in_err-opening.result c.from_residual-in_err-opening.ensures.1 in
    rw (r.1, r.2) (λ _. not_out code p c.loop-position.openings.items c.loop-position.places.items c.loop-position.invariant closes c.in_err-opening.field-0.0 c.in_err-opening.ensures.fault)

pub returns-in_err-enter-clause-fault : goal.returns-in_err-enter-clause-fault
returns-in_err-enter-clause-fault c =
    let code = c.args.code.now.instrs in
    let p = c.loop-position.position in
    let at : slice_get code p ≡ Some c.index-instrs-from.result = slice_get_read code c.count-position-end.result p c.index-instrs-from.result c.count-position-end.ensures.value c.loop-position-test.true (search rules) in
    let opens : kind_at code p ≡ Some (Opens c.in-Some.count) = ap (option_map kind) at ∙ ap Some c.in-Some.ensures in
    let r = err_from_is_err_and c.from_residual-in_err-enter.result c.from_residual-in_err-enter.ensures.1 in
    rw (r.1, r.2) (λ _. not_in code p c.in-Some.count c.loop-position.openings.items c.loop-position.places.items c.loop-position.invariant opens c.in_err-enter.field-0.0 c.in_err-enter.ensures.fault)

pub returns-in_err-enter-clause-accepts : goal.returns-in_err-enter-clause-accepts
returns-in_err-enter-clause-accepts c =
    let fault = returns-in_err-enter-clause-fault c in
    let r = err_from_is_err_and c.from_residual-in_err-enter.result c.from_residual-in_err-enter.ensures.1 in
    rw (r.1, r.2) (only_memory c.args.code.now.instrs c.in_err-enter.field-0.0 (rw (r.1, r.2) at fault))

pub returns-in_err-opening-clause-accepts : goal.returns-in_err-opening-clause-accepts
returns-in_err-opening-clause-accepts c =
    let fault = returns-in_err-opening-clause-fault c in
    let r = err_from_is_err_and c.from_residual-in_err-opening.result c.from_residual-in_err-opening.ensures.1 in
    rw (r.1, r.2) (only_memory c.args.code.now.instrs c.in_err-opening.field-0.0 (rw (r.1, r.2) at fault))

pub index_mut-requires : goal.index_mut-requires
index_mut-requires c =
    let before = opens_before c.args.code.now.instrs c.loop-position.position c.in_ok-opening.opening c.loop-position.openings.items c.leave.new.openings.items c.loop-position.places.items c.loop-position.invariant c.in_ok-opening.ensures.closed in
    let long = c.in_ok-push.ensures.len in
    let placed = c.loop-position.invariant.placed.long in
    let same : vec_len c.loop-position.places ≡ length c.loop-position.places.items = search rules in
    omega arith

pub loop-position-preserved : goal.loop-position-preserved
loop-position-preserved c =
    let code = c.args.code.now.instrs in
    let p = c.loop-position.position in
    let at : slice_get code p ≡ Some c.index-instrs-from.result = slice_get_read code c.count-position-end.result p c.index-instrs-from.result c.count-position-end.ensures.value c.loop-position-test.true (search rules) in
    let openings = c.loop-position.openings.items in
    let places = c.loop-position.places.items in
    let walked = c.loop-position.invariant in
    let more = c.push.new.self.items in
    let placed = placed_here code p openings places more c.place.result walked c.place.ensures.depth c.place.ensures.opening c.place.ensures.close c.in_ok-push.ensures.items in
    elim c.match-turns_of.branch [
      | in-Some+in_ok-enter w ↦
          let opens : kind_at code p ≡ Some (Opens w.in-Some.count) = ap (option_map kind) at ∙ ap Some w.in-Some.ensures in
          rw (w.places-is, w.openings-is) (walked_in code p w.in-Some.count openings places walked opens w.enter.new.openings.items more placed w.in_ok-enter.ensures.turns w.in_ok-enter.ensures.room w.in_ok-enter.ensures.opened)
      | in_default-turns_of+in-End+in_ok-opening w ↦
          let closes : kind_at code p ≡ Some Closes = ap (option_map kind) at ∙ ap (λ i. Some (kind i)) w.in-End.is in
          let before = opens_before code p w.in_ok-opening.opening openings w.leave.new.openings.items places walked w.in_ok-opening.ensures.closed in
          let within : w.in_ok-opening.opening < length more = let long = placed.long in omega arith in
          let marked = marks more w.in_ok-opening.opening w.from-in-End.result p w.index_mut.result.now within w.from-in-End.ensures w.index_mut.ensures.value in
          rw (w.places-is, w.openings-is) (walked_out code p openings places walked closes w.in_ok-opening.opening w.leave.new.openings.items more _ placed w.in_ok-opening.ensures.closed marked)
      | in_default-turns_of+in_default-instr w ↦
          let other = neither code p c.index-instrs-from.result at (MatchOption-at_none _ _ w.in_default-turns_of.is c.turns_of.ensures) w.in_default-instr.not-End in
          rw (w.places-is, w.openings-is) (walked_on code p openings places more walked placed other.0 other.1)
    ]

pub returns-in-Some-first-clause-fault : goal.returns-in-Some-first-clause-fault
returns-in-Some-first-clause-fault c = λ _.
    left_open c.args.code.now.instrs c.loop-position.position c.in-Some-first.opening.now c.loop-position.openings.items c.loop-position.places.items (let e = c.count-position-end.ensures.value in let le = c.loop-position.auto.position-end in let ge = c.loop-position-test.false in omega arith) c.loop-position.invariant (search rules)

pub returns-in-Some-first-clause-accepts : goal.returns-in-Some-first-clause-accepts
returns-in-Some-first-clause-accepts c = only_memory c.args.code.now.instrs _ (returns-in-Some-first-clause-fault c)

pub returns-in-None-clause-nest : goal.returns-in-None-clause-nest
returns-in-None-clause-nest c =
    walked_through c.args.code.now.instrs c.loop-position.position c.loop-position.openings.items c.loop-position.places.items (let e = c.count-position-end.ensures.value in let le = c.loop-position.auto.position-end in let ge = c.loop-position-test.false in omega arith) (search rules) c.loop-position.invariant
