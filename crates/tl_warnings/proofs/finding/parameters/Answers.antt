use Rattle.std.proofs.Common.{arith}
use Rattle.tl_warnings.specs.Finding.{ParametersWarn, no_parameters}
use Rattle.tl_warnings.proofs.ListLemmas.{taken_all}
use Rattle.tl_warnings.proofs.FindingLemmas.{parameters_more}
use Rattle.tl_warnings.proofs.finding.parameters.Goals as goal

pub loop-name-init : goal.loop-name-init
loop-name-init c = no_parameters

pub loop-name-preserved : goal.loop-name-preserved
loop-name-preserved c = parameters_more c.args.names.now c.loop-name.name-index _ (omega arith) c.loop-name.invariant c.in_ok-parameter.ensures

pub returns : goal.returns
returns c = taken_all (λ z. ParametersWarn c.args.part.now c.args.found.now.items z c.loop-name.found.items) c.args.names.now c.loop-name.name-index (omega arith) c.loop-name.invariant
