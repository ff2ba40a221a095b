use Rattle.std.proofs.Common.{inl}
use Rattle.std.proofs.lemmas.Result.{err_from_is_err_and}
use Rattle.tl_export.proofs.exporting.hand_over.Goals as goal

pub returns-in_err-trail-clause-again : goal.returns-in_err-trail-clause-again
returns-in_err-trail-clause-again g c =
    let p = err_from_is_err_and c.from_residual.result c.from_residual.ensures.1 in
    rw (p.1, p.2) (λ clean contents v holds is_plan can of. inl (c.in_err-trail.ensures.again clean contents v holds is_plan can of))
