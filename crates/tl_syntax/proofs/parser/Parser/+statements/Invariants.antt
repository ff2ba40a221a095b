-- Each block and each `if` opens a level.
use Rattle.std.proofs.Common.{◌≡◌, suc, ◌+◌, ◌*◌}
use Rattle.tl_syntax.specs.declared.token.TokenKind.TheVariants as K
use Rattle.tl_syntax.specs.Grammar.{Stands}
use Rattle.tl_syntax.specs.Statements.{AreStatements}
use Rattle.tl_syntax.proofs.parser.Parser.+statements.Given as goal

abbrev pub decreases-attempt : goal.decreases-attempt
decreases-attempt l = 10 * l.levels + 5

abbrev pub decreases-block : goal.decreases-block
decreases-block l = 10 * l.levels + 1

abbrev pub decreases-choice : goal.decreases-choice
decreases-choice l = 10 * l.levels + 5

abbrev pub decreases-repetition : goal.decreases-repetition
decreases-repetition l = 10 * l.levels + 5

abbrev pub decreases-statement : goal.decreases-statement
decreases-statement l = 10 * l.levels + 9

abbrev pub decreases-otherwise : goal.decreases-otherwise
decreases-otherwise l = 10 * l.levels + 5

abbrev pub decreases-visit : goal.decreases-visit
decreases-visit l = 10 * l.levels + 5

abbrev pub invariant-block-loop : goal.invariant-block-loop
invariant-block-loop l = record {
  room : l.fn.levels ≡ suc l.inside;
  begun : Stands l.self.tokens.now K.LeftBrace l.fn.at l.initial.next;
  read : AreStatements l.self.tokens.now l.inside l.initial.next l.next l.statements.items;
}

abbrev pub decreases-form : goal.decreases-form
decreases-form l = 10 * l.levels + 8

abbrev pub decreases-act : goal.decreases-act
decreases-act l = 10 * l.levels + 7

abbrev pub decreases-other : goal.decreases-other
decreases-other l = 10 * l.levels + 6

abbrev pub decreases-conditional_loop : goal.decreases-conditional_loop
decreases-conditional_loop l = 10 * l.levels + 5

abbrev pub decreases-ended : goal.decreases-ended
decreases-ended l = 10 * l.levels + 6

abbrev pub decreases-search : goal.decreases-search
decreases-search l = 10 * l.levels + 7

abbrev pub decreases-not_found : goal.decreases-not_found
decreases-not_found l = 10 * l.levels + 6

abbrev pub decreases-turns : goal.decreases-turns
decreases-turns l = 10 * l.levels + 6
