use Rattle.std.proofs.Common.{rules, ◌≡◌, ◌+◌, ◌∷◌, [], ◌++◌, length, ap, subst, add-one, arith}
use Rattle.sqlite_trees.specs.View.{IsClean}
use Rattle.tl_export.specs.Epochs.{IsEndOf}
use Rattle.tl_export.specs.Exported.{IsAlong}
use Rattle.tl_export.proofs.QuietLemmas.{quiet_then}
use Rattle.tl_export.proofs.ReadLemmas.{holds_again}
use Rattle.std.proofs.lemmas.Result.{err_from_is_err_and}
use Rattle.tl_store_history.specs.History.{core_at}
use Rattle.tl_export.proofs.HistoryLemmas.{first_core, core_after, exportable}
use Rattle.tl_export.proofs.TrailLemmas.{took_then, along_first, each_first, along_next, each_next, ends_first, ends_next}
use Rattle.tl_export.proofs.exporting.hand_over_all.Goals as goal

pub loop-epoch-init : goal.loop-epoch-init
loop-epoch-init g c =
    let p = c.args.plan.now in
    let first = c.in_ok-last.last in
    let is = c.in_ok-last.ensures in (
      (
        first ∷ [],
        is.taken,
        along_first p first is.clean is.opening,
        (λ clean contents holds is_plan. each_first contents p first (is.epoch clean contents holds is_plan)),
        (λ clean contents t es v holds is_plan history reached.
            let ends = is.same clean contents (core_at es v 0) holds is_plan (first_core contents p t es v is_plan history reached) in
            (ends_first es v first ends, ends)),
      ),
      search rules,
      search rules,
      search rules,
    )

pub loop-epoch-preserved : goal.loop-epoch-preserved
loop-epoch-preserved g c =
    let p = c.args.plan.now in
    let old = (g.S.Store.view c.args.store.now).trees in
    let last = c.loop-epoch.last in
    let next = c.in_ok-last-2.last in
    let is = c.in_ok-last-2.ensures in
    let handed = c.loop-epoch.invariant.0 in
    let taken_before = g.K.TrailTaker.taken c.args.taker.now in
    let taken_now = g.K.TrailTaker.taken c.loop-epoch.taker in
    let taken_then = g.K.TrailTaker.taken c.hand_over-in-loop-epoch.new.taker in (
      (
        handed.0 ++ next ∷ [],
        took_then taken_before taken_now taken_then handed.0 (next ∷ []) handed.1 is.taken,
        along_next p c.loop-epoch.epoch handed.0 last next handed.2 is.clean,
        (λ clean contents holds is_plan.
            let before : IsClean (g.S.Store.view c.loop-epoch.store) = omega (arith, clean, c.hand_over-in-loop-epoch.ensures.quiet.clean) in
            let same : (g.S.Store.view c.loop-epoch.store).trees ≡ old = ap (λ v. v.trees) ((c.loop-epoch.invariant.1 before).same) in
            each_next contents p c.loop-epoch.epoch handed.0 last next handed.2 (handed.3 before contents holds is_plan)
            (is.epoch clean contents (holds_again contents (g.S.Store.view c.loop-epoch.store).trees old holds same) is_plan)),
        (λ clean contents t es v holds is_plan history reached.
            let before : IsClean (g.S.Store.view c.loop-epoch.store) = omega (arith, clean, c.hand_over-in-loop-epoch.ensures.quiet.clean) in
            let same : (g.S.Store.view c.loop-epoch.store).trees ≡ old = ap (λ v. v.trees) ((c.loop-epoch.invariant.1 before).same) in
            let so_far = handed.4 before contents t es v holds is_plan history reached in
            let ends = is.same clean contents (core_at es v (c.loop-epoch.epoch + 1)) (holds_again contents (g.S.Store.view c.loop-epoch.store).trees old holds same) is_plan
            (core_after contents p t es v is_plan history reached c.loop-epoch.epoch last (omega (arith, c.loop-epoch-test.true, c.len-epoch-end.ensures)) so_far.1) in
            let then = subst (λ n. IsEndOf (core_at es v n) next) (add-one c.loop-epoch.epoch) ends in
            (ends_next es v c.loop-epoch.epoch handed.0 next handed.2.count so_far.0 then, ends)),
      ),
      search rules,
      search rules,
      quiet_then c.loop-epoch.invariant.3 c.hand_over-in-loop-epoch.ensures.quiet,
    )

pub returns-in_err-last-clause-again : goal.returns-in_err-last-clause-again
returns-in_err-last-clause-again g c =
    let p = err_from_is_err_and c.from_residual.result c.from_residual.ensures.1 in
    rw (p.1, p.2) (λ clean contents t es v holds is_plan history reached size.
    c.in_err-last.ensures.again clean contents (core_at es v 0) holds is_plan (exportable contents t es v history reached size) (first_core contents c.args.plan.now t es v is_plan history reached))

pub returns-in_err-last-2-clause-again : goal.returns-in_err-last-2-clause-again
returns-in_err-last-2-clause-again g c =
    let p = err_from_is_err_and c.from_residual-in_err-last-2.result c.from_residual-in_err-last-2.ensures.1 in
    rw (p.1, p.2) (λ clean contents t es v holds is_plan history reached size.
    let old = (g.S.Store.view c.args.store.now).trees in
    let last = c.loop-epoch.last in
    let before : IsClean (g.S.Store.view c.loop-epoch.store) = omega (arith, clean, c.hand_over-in-loop-epoch.ensures.quiet.clean) in
    let same : (g.S.Store.view c.loop-epoch.store).trees ≡ old = ap (λ v. v.trees) ((c.loop-epoch.invariant.1 before).same) in
    let so_far = c.loop-epoch.invariant.0.4 before contents t es v holds is_plan history reached in
    c.in_err-last-2.ensures.again clean contents (core_at es v (c.loop-epoch.epoch + 1)) (holds_again contents (g.S.Store.view c.loop-epoch.store).trees old holds same) is_plan
    (exportable contents t es v history reached size)
    (core_after contents c.args.plan.now t es v is_plan history reached c.loop-epoch.epoch last (omega (arith, c.loop-epoch-test.true, c.len-epoch-end.ensures)) so_far.1))

pub returns-clause-trails : goal.returns-clause-trails
returns-clause-trails g c =
    let handed = c.loop-epoch.invariant.0 in
    let is : c.loop-epoch.epoch ≡ length c.args.plan.now.seals.items = search rules in (
      handed.0,
      handed.1,
      subst (λ n. IsAlong c.args.plan.now n handed.0 c.loop-epoch.last) is handed.2,
      handed.3,
      (λ clean contents t es v holds is_plan history reached. (handed.4 clean contents t es v holds is_plan history reached).0),
    )
