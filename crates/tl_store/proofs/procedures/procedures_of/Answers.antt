use Rattle.std.proofs.Common.{get_or, arith}
use Rattle.std.proofs.lemmas.Result.{err_from_is_err_and}
use Rattle.tl_procedures.specs.Names.{no_procedure}
use Rattle.tl_store.proofs.AgainLemmas.{one_form}
use Rattle.tl_store.proofs.ProcedureLemmas.{latest_more, next_latest, may_put_next, all_put}
use Rattle.tl_store.proofs.procedures.procedures_of.Goals as goal

pub loop-row-preserved : goal.loop-row-preserved
loop-row-preserved c = (
  latest_more c.args.rows.now c.loop-row.row-index c.row-item.result c.row-item.result c.loop-row.procedures c.put.new.procedures (omega arith) c.row-item.is c.loop-row.invariant.0 c.in_ok-put.ensures.put,
  λ those accepted forms.
      (let one = one_form c.args.rows.now those c.loop-row.row-index c.row-item.result forms (omega arith) c.row-item.is in
      let good = accepted c.loop-row.row-index no_procedure one.1 in
      next_latest those c.loop-row.procedures c.put.new.procedures c.loop-row.row-index (c.loop-row.invariant.1 those accepted forms) one.1
      (c.in_ok-put.ensures.same (get_or those c.loop-row.row-index no_procedure) good.0 good.1 one.0)),
)

pub returns-in_err-put-clause-again : goal.returns-in_err-put-clause-again
returns-in_err-put-clause-again c = λ those may accepted forms.
    let one = one_form c.args.rows.now those c.loop-row.row-index c.row-item.result forms (omega arith) c.row-item.is in
    let good = accepted c.loop-row.row-index no_procedure one.1 in
    let so_far = c.loop-row.invariant.1 those accepted forms in
    let r = err_from_is_err_and c.from_residual.result c.from_residual.ensures.1 in
    rw (r.1, r.2) (c.in_err-put.ensures.again (get_or those c.loop-row.row-index no_procedure) good.0 good.1 one.0 (may_put_next those c.loop-row.procedures c.loop-row.row-index may so_far one.1))

pub returns-clause-again : goal.returns-clause-again
returns-clause-again c = λ those may accepted forms. all_put c.args.rows.now those c.loop-row.procedures c.loop-row.row-index forms (omega arith) (c.loop-row.invariant.1 those accepted forms)
