use Rattle.tl_sources.proofs.SourceLemmas.{provides}
use Rattle.tl_sources.proofs.source.procedures_of.Goals as goal

pub returns-in-Ok-clause-ok : goal.returns-in-Ok-clause-ok
returns-in-Ok-clause-ok c = provides c.args.text.now c.in_ok-compiled.compiled.items c.in-Ok.found.items c.in_ok-compiled.ensures.compiled c.in_ok-compiled.ensures.codes c.in-Ok.ensures
