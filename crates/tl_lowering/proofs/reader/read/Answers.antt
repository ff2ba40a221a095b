use Rattle.tl_lowering.proofs.PathLemmas.{both_ok}
use Rattle.tl_lowering.proofs.WordLemmas.{are_words}
use Rattle.tl_lowering.proofs.reader.read.Goals as goal

pub returns-clause-procedures : goal.returns-clause-procedures
returns-clause-procedures c =
    both_ok c.program.result _ _ _ c.program.ensures.named c.program.ensures.procedures (λ p declared all k d lt. all k d lt (are_words c.in_ok-declarations.ensures c.deref.ensures.value declared k d lt))
