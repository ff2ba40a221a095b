use Rattle.std.proofs.Common.{arith}
use Rattle.tl_warnings.specs.Finding.{ValuesWarn, no_values}
use Rattle.tl_warnings.proofs.ListLemmas.{taken_all}
use Rattle.tl_warnings.proofs.FindingLemmas.{values_more}
use Rattle.tl_warnings.proofs.finding.values.Goals as goal

pub loop-name-init : goal.loop-name-init
loop-name-init c = no_values

pub loop-name-preserved : goal.loop-name-preserved
loop-name-preserved c = values_more c.args.names.now c.loop-name.name-index _ (omega arith) c.loop-name.invariant c.in_ok-value.ensures

pub returns : goal.returns
returns c = taken_all (λ z. ValuesWarn c.args.known.now c.args.found.now.items z c.loop-name.found.items) c.args.names.now c.loop-name.name-index (omega arith) c.loop-name.invariant
