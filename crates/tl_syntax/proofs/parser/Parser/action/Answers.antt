use Rattle.tl_syntax.specs.Statements.{emits, locks, frees}
use Rattle.tl_syntax.proofs.parser.Parser.action.Goals as goal

pub returns-in_ok-values-in-Emit : goal.returns-in_ok-values-in-Emit
returns-in_ok-values-in-Emit c = emits c.in_ok-at-in-Emit.ensures c.in_ok-values-in-Emit.ensures

pub returns-in_ok-place-in-Lock : goal.returns-in_ok-place-in-Lock
returns-in_ok-place-in-Lock c = locks c.in_ok-at-in-Lock.ensures c.in_ok-place-in-Lock.ensures

pub returns-in_ok-node-in-Free : goal.returns-in_ok-node-in-Free
returns-in_ok-node-in-Free c = frees c.in_ok-at-in-Free.ensures c.in_ok-node-in-Free.ensures
