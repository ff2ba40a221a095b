use Rattle.std.proofs.Common.{arith}
use Rattle.tl_warnings.specs.Finding.{DeclarationsWarn, no_declarations}
use Rattle.tl_warnings.proofs.ListLemmas.{taken_all}
use Rattle.tl_warnings.proofs.FindingLemmas.{declarations_more}
use Rattle.tl_warnings.proofs.finding.declarations.Goals as goal

pub loop-one-init : goal.loop-one-init
loop-one-init c = no_declarations

pub loop-one-preserved : goal.loop-one-preserved
loop-one-preserved c = declarations_more c.args.all.now c.loop-one.one-index c.one-item.result (omega arith) c.one-item.is c.loop-one.invariant c.in_ok-declaration.ensures

pub returns : goal.returns
returns c = taken_all (λ z. DeclarationsWarn c.args.found.now.items z c.loop-one.found.items) c.args.all.now c.loop-one.one-index (omega arith) c.loop-one.invariant
