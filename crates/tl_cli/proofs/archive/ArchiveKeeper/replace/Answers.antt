use Rattle.std.proofs.lemmas.Result.{IfErr-weaker}
use Rattle.tl_cli.proofs.archive.ArchiveKeeper.replace.Goals as goal

pub returns-clause-unknown : goal.returns-clause-unknown
returns-clause-unknown g c = IfErr-weaker c.replace.result _ _ (λ e unknown is. (_, unknown is)) c.replace.ensures.fault
