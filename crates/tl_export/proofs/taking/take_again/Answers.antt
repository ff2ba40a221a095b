use Rattle.std.proofs.Common.{◌≡◌, map, option_copied, sym, ap, ◌∙◌, subst}
use Rattle.std.proofs.lemmas.Result.{err_from_is_err_and}
use Rattle.tl_audit.specs.Chains.{TakesOverFrom, after_file}
use Rattle.tl_rows.specs.Rows.{fields_in}
use Rattle.tl_export.specs.Epochs.{nodes_at, records_for}
use Rattle.tl_export.proofs.EndLemmas.{takes_over_so}
use Rattle.tl_export.proofs.taking.take_again.Goals as goal

pub returns-clause-epoch : goal.returns-clause-epoch
returns-clause-epoch g c = λ clean contents holds is_plan. record {
  rows = c.in_ok-rows.rows;
  are_rows = c.in_ok-rows.ensures.rows clean contents holds is_plan;
  made = c.in_ok-trail.ensures.made;
}

pub returns-clause-same : goal.returns-clause-same
returns-clause-same g c = λ clean contents v holds is_plan of.
    let before = option_copied c.args.before in
    let records : map fields_in c.in_ok-rows.rows.records.items ≡ v.opening =
    ap (λ r. map fields_in r.items) c.in_ok-rows.ensures.records ∙ c.in_ok-records.ensures ∙ ap (records_for c.args.plan.now before) (c.count_nodes.ensures.count ∙ ap (nodes_at c.args.epoch) c.deref.ensures.value) ∙ sym of.begins in
    c.in_ok-trail.ensures.same v of.reached (of.rows c.in_ok-rows.rows (c.in_ok-rows.ensures.rows clean contents holds is_plan) records)

pub returns-in_err-rows-clause-again : goal.returns-in_err-rows-clause-again
returns-in_err-rows-clause-again g c =
    let p = err_from_is_err_and c.from_residual-in_err-rows.result c.from_residual-in_err-rows.ensures.1 in
    rw (p.1, p.2) (λ clean contents v holds is_plan can of. c.in_err-rows.ensures.again clean contents holds is_plan can of.counts)

pub returns-in_err-trail-clause-again : goal.returns-in_err-trail-clause-again
returns-in_err-trail-clause-again g c =
    let p = err_from_is_err_and c.from_residual-in_err-trail.result c.from_residual-in_err-trail.ensures.1 in
    rw (p.1, p.2) (λ clean contents v holds is_plan can of.
    let before = option_copied c.args.before in
    let records : map fields_in c.in_ok-rows.rows.records.items ≡ v.opening =
    ap (λ r. map fields_in r.items) c.in_ok-rows.ensures.records ∙ c.in_ok-records.ensures ∙ ap (records_for c.args.plan.now before) (c.count_nodes.ensures.count ∙ ap (nodes_at c.args.epoch) c.deref.ensures.value) ∙ sym of.begins in
    c.in_err-trail.ensures.again v of.reached (of.rows c.in_ok-rows.rows (c.in_ok-rows.ensures.rows clean contents holds is_plan) records))

pub returns-in_err-order-clause-again : goal.returns-in_err-order-clause-again
returns-in_err-order-clause-again g c =
    let p = err_from_is_err_and c.from_residual-in_err-order.result c.from_residual-in_err-order.ensures.1 in
    rw (p.1, p.2) (λ clean contents v holds is_plan can of.
    let before = option_copied c.args.before in
    let records : map fields_in c.in_ok-rows.rows.records.items ≡ v.opening =
    ap (λ r. map fields_in r.items) c.in_ok-rows.ensures.records ∙ c.in_ok-records.ensures ∙ ap (records_for c.args.plan.now before) (c.count_nodes.ensures.count ∙ ap (nodes_at c.args.epoch) c.deref.ensures.value) ∙ sym of.begins in
    let ends = c.in_ok-trail.ensures.same v of.reached (of.rows c.in_ok-rows.rows (c.in_ok-rows.ensures.rows clean contents holds is_plan) records) in
    let takes = subst (TakesOverFrom (after_file before)) (sym ends.trail) (takes_over_so before v ends.last ends.made of.takes_over) in
    c.in_err-order.ensures.again (takes, c.in_ok-trail.ensures.clean, tt))
