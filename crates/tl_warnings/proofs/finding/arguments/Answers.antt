use Rattle.std.proofs.Common.{arith}
use Rattle.tl_warnings.specs.Finding.{ArgumentsWarn, no_arguments}
use Rattle.tl_warnings.proofs.ListLemmas.{taken_all}
use Rattle.tl_warnings.proofs.FindingLemmas.{arguments_more}
use Rattle.tl_warnings.proofs.finding.arguments.Goals as goal

pub loop-name-init : goal.loop-name-init
loop-name-init c = no_arguments

pub loop-name-preserved : goal.loop-name-preserved
loop-name-preserved c = arguments_more c.args.names.now c.loop-name.name-index _ (omega arith) c.loop-name.invariant c.in_ok-argument.ensures

pub returns : goal.returns
returns c = taken_all (λ z. ArgumentsWarn c.args.procedure.now c.args.found.now.items z c.loop-name.found.items) c.args.names.now c.loop-name.name-index (omega arith) c.loop-name.invariant
