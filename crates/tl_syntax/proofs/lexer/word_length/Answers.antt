use Rattle.std.proofs.Common.{rules, tests, not}
use Rattle.std.proofs.lemmas.Iterator.{YieldsList-from_slice}
use Rattle.std.proofs.lemmas.Iterator.Search.{position_from_yields_List}
use Rattle.tl_syntax.specs.Tokens.{stays_word}
use Rattle.tl_syntax.proofs.SearchLemmas.{searched}
use Rattle.tl_syntax.proofs.lexer.word_length.Goals as goal

pub returns-clause-left : goal.returns-clause-left
returns-clause-left c =
    searched (λ b. not (stays_word b)) c.args.rest.now c.position.result c.unwrap_or.result
    (position_from_yields_List (λ b. not (stays_word b)) _ _ c.position.result c.position.ensures.ran
    (YieldsList-from_slice c.args.rest.now c.iter.ensures.rest) (λ x b q k. search (rules, tests)))
    (search rules)
