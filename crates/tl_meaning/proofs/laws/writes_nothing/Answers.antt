use Rattle.tl_meaning.proofs.AtomicRuns.{atomic_writes_nothing}
use Rattle.tl_meaning.proofs.laws.writes_nothing.Goals as goal

pub returns : goal.returns
returns c = λ before names text whole arity parents args t read marked sound turn. atomic_writes_nothing read marked arity parents args t sound turn
