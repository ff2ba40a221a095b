use Rattle.std.proofs.Common.{sym, subst}
use Rattle.std.proofs.lemmas.Result.{on_ok_weaker}
use Rattle.tl_warnings.specs.Finding.{ArgumentWarns, argument}
use Rattle.tl_warnings.proofs.ReadingLemmas.{block_at}
use Rattle.tl_warnings.proofs.finding.argument.Goals as goal

pub returns : goal.returns
returns c =
    on_ok_weaker c.unless.result
    (λ is.
    subst (ArgumentWarns c.args.procedure.now c.args.name c.args.found.now.items) (sym is)
    (argument (block_at c.deref.ensures.value c.block_reads-body.ensures) (block_at c.deref-2.ensures.value c.block_reads-otherwise.ensures)))
    c.unless.ensures
