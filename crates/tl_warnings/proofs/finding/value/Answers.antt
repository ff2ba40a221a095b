use Rattle.std.proofs.Common.{sym, subst}
use Rattle.std.proofs.lemmas.Result.{on_ok_weaker}
use Rattle.tl_warnings.specs.Finding.{ValueWarns, value}
use Rattle.tl_warnings.proofs.finding.value.Goals as goal

pub returns : goal.returns
returns c = on_ok_weaker c.unless.result (λ is. subst (ValueWarns c.args.name c.args.known.now c.args.found.now.items) (sym is) (value c.block_reads-is_read.ensures)) c.unless.ensures
