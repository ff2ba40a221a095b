use Rattle.std.proofs.Common.{◌≡◌, length, sym, ap, ap₂, ◌∙◌, inl, arith}
use Rattle.std.proofs.lemmas.List.{length-map}
use Rattle.std.proofs.lemmas.Result.{on_ok_weaker, IfErr-weaker, err_from_is_err_and}
use Rattle.tl_ledger.specs.News.{seal_columns}
use Rattle.sqlite_trees.specs.View.{IsClean}
use Rattle.tl_export.specs.Plans.{IsPlanOf}
use Rattle.tl_export.specs.Epochs.{nodes_at}
use Rattle.tl_export.proofs.DifferingLemmas.{none_other}
use Rattle.tl_export.proofs.ReadLemmas.{holds_again}
use Rattle.tl_export.proofs.HistoryLemmas.{core_behind, exportable, all_nodes, records_are}
use Rattle.tl_export.proofs.TrailLemmas.{of_last, last_opening}
use Rattle.tl_export.proofs.exporting.export.Goals as goal

pub returns-clause-trails : goal.returns-clause-trails
returns-clause-trails g c =
    let p = c.in_ok-plan.plan in
    let old = (g.S.Store.view c.args.store.now).trees in
    let handed = c.in_ok-last.ensures.trails in
    on_ok_weaker c.check_records.result
    (λ same. (
      handed.0,
      handed.1,
      handed.2.clean,
      (λ clean contents holds.
          let before : IsClean (g.S.Store.view c.read_plan.new.store) = omega (arith, clean, c.hand_over_all.ensures.quiet.clean) in
          let kept : (g.S.Store.view c.read_plan.new.store).trees ≡ old = ap (λ v. v.trees) ((c.in_ok-plan.ensures.reads before).same) in
          let is_plan : IsPlanOf contents p = c.in_ok-plan.ensures.plan before contents holds in record {
            plan = p;
            is_plan = is_plan;
            count = handed.2.count;
            each = handed.3 clean contents (holds_again contents (g.S.Store.view c.read_plan.new.store).trees old holds kept) is_plan;
            opening = handed.2.opening;
            records = of_last p (length p.seals.items) handed.0 c.in_ok-last.last handed.2 same;
          }),
      (λ clean contents t es v holds history reached.
          let before : IsClean (g.S.Store.view c.read_plan.new.store) = omega (arith, clean, c.hand_over_all.ensures.quiet.clean) in
          let kept : (g.S.Store.view c.read_plan.new.store).trees ≡ old = ap (λ v. v.trees) ((c.in_ok-plan.ensures.reads before).same) in
          let is_plan : IsPlanOf contents p = c.in_ok-plan.ensures.plan before contents holds in record {
            many = (let long = ap length is_plan.seals in let seals = length-map p.seals.items seal_columns in omega (arith, handed.2.count, long, seals, history.history.many));
            each = handed.4 clean contents t es v (holds_again contents (g.S.Store.view c.read_plan.new.store).trees old holds kept) is_plan history reached;
          }),
    ))
    c.check_records.ensures.ok

pub returns-in_err-plan-clause-again : goal.returns-in_err-plan-clause-again
returns-in_err-plan-clause-again g c =
    let p = err_from_is_err_and c.from_residual.result c.from_residual.ensures.1 in
    rw (p.1, p.2) (λ clean contents t es v holds history reached size. inl (c.in_err-plan.ensures.again clean contents holds (exportable contents t es v history reached size)))

pub returns-in_err-last-clause-again : goal.returns-in_err-last-clause-again
returns-in_err-last-clause-again g c =
    let p = err_from_is_err_and c.from_residual-in_err-last.result c.from_residual-in_err-last.ensures.1 in
    rw (p.1, p.2) (λ clean contents t es v holds history reached size.
    let old = (g.S.Store.view c.args.store.now).trees in
    let before : IsClean (g.S.Store.view c.read_plan.new.store) = omega (arith, clean, c.hand_over_all.ensures.quiet.clean) in
    let kept : (g.S.Store.view c.read_plan.new.store).trees ≡ old = ap (λ v. v.trees) ((c.in_ok-plan.ensures.reads before).same) in
    c.in_err-last.ensures.again clean contents t es v (holds_again contents (g.S.Store.view c.read_plan.new.store).trees old holds kept) (c.in_ok-plan.ensures.plan before contents holds) history reached size)

pub returns-then-count_nodes-len-clause-again : goal.returns-then-count_nodes-len-clause-again
returns-then-count_nodes-len-clause-again g c = λ clean contents t es v holds history reached size.
    let p = c.in_ok-plan.plan in
    let all = all_nodes contents p t es v (c.in_ok-plan.ensures.plan clean contents holds) history reached in
    let seals : c.len.result ≡ length p.seals.items = omega (arith, c.len.ensures) in
    let same = ap₂ nodes_at seals c.deref.ensures.value ∙ all in
    absurd (grind (arith, c.if-count_nodes-len.true, c.count_nodes.ensures.count, same))

pub returns-clause-again : goal.returns-clause-again
returns-clause-again g c =
    let p = c.in_ok-plan.plan in
    let last = c.in_ok-last.last in
    let old = (g.S.Store.view c.args.store.now).trees in
    let handed = c.in_ok-last.ensures.trails in
    IfErr-weaker c.check_records.result _ _
    (λ e found clean contents t es v holds history reached size.
    let before : IsClean (g.S.Store.view c.read_plan.new.store) = omega (arith, clean, c.hand_over_all.ensures.quiet.clean) in
    let kept : (g.S.Store.view c.read_plan.new.store).trees ≡ old = ap (λ v. v.trees) ((c.in_ok-plan.ensures.reads before).same) in
    let is_plan : IsPlanOf contents p = c.in_ok-plan.ensures.plan before contents holds in
    let each = handed.4 clean contents t es v (holds_again contents (g.S.Store.view c.read_plan.new.store).trees old holds kept) is_plan history reached in
    let long : length p.seals.items ≡ length es = sym (ap length is_plan.seals ∙ length-map p.seals.items seal_columns) ∙ history.history.many in
    let opening = last_opening p (length p.seals.items) handed.0 last es v handed.2 each (core_behind es v (length p.seals.items) long) in
    absurd (none_other last.opening p.records.items found.0 (opening ∙ records_are contents p t es v is_plan history reached) found.2))
    c.check_records.ensures.fault
