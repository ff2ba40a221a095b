use Rattle.std.proofs.Common.{subst, sym}
use Rattle.tl_compiler.specs.Statements.{procedure_code}
use Rattle.tl_meaning.specs.Calls.{DoesCall}
use Rattle.tl_meaning.proofs.CallRuns.{call_runs, accepted_runs}
use Rattle.tl_meaning.proofs.laws.procedures.Goals as goal

pub returns : goal.returns
returns c = λ arity parents body args t is sound none few.
    let runs = accepted_runs (procedure_code arity body) c.args.procedure.now c.code-fact.ensures.valid c.code-fact.ensures.accepted is in
    subst (λ instrs. DoesCall instrs parents body args t) (sym is) (call_runs arity parents body runs none sound args t few)
