use Rattle.tl_meaning.proofs.LiteralRuns.{literal_is}
use Rattle.tl_meaning.proofs.laws.literals.Goals as goal

pub returns : goal.returns
returns c = λ parents w e s literal fits. literal_is parents s literal fits
