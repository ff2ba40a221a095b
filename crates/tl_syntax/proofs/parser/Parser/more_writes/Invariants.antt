-- What was read so far.
use Rattle.tl_syntax.specs.Statements.{AreMoreWrites}
use Rattle.tl_syntax.proofs.parser.Parser.more_writes.Given as goal

abbrev pub invariant-loop : goal.invariant-loop
invariant-loop l = AreMoreWrites l.self.tokens.now l.fn.levels l.fn.at l.next l.writes.items
