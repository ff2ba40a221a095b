use Rattle.tl_export.proofs.EndLemmas.{ends_so}
use Rattle.tl_export.proofs.taking.trail_of_rows.Goals as goal

pub returns-in-Ok-clause-same : goal.returns-in-Ok-clause-same
returns-in-Ok-clause-same c = λ v reached of.
    ends_so c.args.rows.now v c.in_ok-core.field-0.core.seen c.in-Ok.trail reached c.lemma_is_reached.ensures of c.in_ok-core.ensures.rebuilt (c.in_ok-core.ensures.same v reached of) c.in-Ok.ensures.trail
