use Rattle.tl_meaning.proofs.CallRuns.{call_runs}
use Rattle.tl_meaning.proofs.laws.calls.Goals as goal

pub returns : goal.returns
returns c = λ arity parents body args t ready sound none few. call_runs arity parents body ready none sound args t few
