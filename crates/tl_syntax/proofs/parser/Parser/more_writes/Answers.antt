use Rattle.std.proofs.Common.{rules}
use Rattle.tl_syntax.proofs.StatementLemmas.{no_writes, next_write}
use Rattle.tl_syntax.proofs.parser.Parser.more_writes.Goals as goal

pub loop-init : goal.loop-init
loop-init c = no_writes (search rules)

pub loop-preserved : goal.loop-preserved
loop-preserved c = next_write c.in_ok-push.ensures.items c.loop.invariant c.in-Some.ensures c.in_ok-write.ensures
