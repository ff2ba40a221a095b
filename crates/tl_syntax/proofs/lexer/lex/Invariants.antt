-- The rest is the end of the text. The tokens so far, followed by those of the rest, are the tokens of the text.
use Rattle.std.proofs.Common.{◌≤◌, length}
use Rattle.tl_syntax.specs.Tokens.{spellings, first_names, Extends, AreDistinct, AreNamesOf}
use Rattle.tl_syntax.proofs.TokenLemmas.{SoFar}
use Rattle.tl_syntax.proofs.lexer.lex.Given as goal

abbrev pub decreases-loop-first : goal.decreases-loop-first
decreases-loop-first l = length l.rest

abbrev pub invariant-loop-first : goal.invariant-loop-first
invariant-loop-first l = record {
  within : length l.rest ≤ length l.fn.text;
  names : Extends first_names (spellings l.lexed.names.keys);
  distinct : AreDistinct (spellings l.lexed.names.keys);
  numbered : AreNamesOf l.lexed.tokens.items (spellings l.lexed.names.keys);
  so_far : SoFar l.fn.text l.rest (spellings l.lexed.names.keys) l.lexed.tokens.items;
}
