use Rattle.std.proofs.Common.{sym, subst, List}
use Rattle.tl_workers.specs.declared.session.Did.{Did}
use Rattle.tl_workers.specs.Kept.{Gains}
use Rattle.tl_server.specs.Gaining.{later_none}
use Rattle.tl_server.proofs.service.EngineService.perform.Goals as goal

pub returns-clause-done : goal.returns-clause-done
returns-clause-done g c =
    let P : List Did → Type 0 = λ xs. Gains c.args.visitor.now c.act-outcome.new.session xs in
    let (own, gains, came) = c.act-outcome.ensures in
    (own, came, subst P (sym (later_none own)) gains)
