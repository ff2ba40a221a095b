use Rattle.std.proofs.Common.{◌∙◌, Some, ap}
use Rattle.tl_lowering.specs.Entering.{before_of, entered_at, entered_of}
use Rattle.tl_lowering.proofs.EnterLemmas.{or_comm}
use Rattle.tl_lowering.proofs.paths.Flow.failing.Goals as goal

pub returns-clause-entered : goal.returns-clause-entered
returns-clause-entered c =
    ap (λ o. record (entered_of c.args.self) { fails = o }) (c.join.ensures.entered ∙ or_comm (entered_at c.args.self.fails) (Some (before_of c.args.held)))
