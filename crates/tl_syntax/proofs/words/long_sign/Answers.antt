use Rattle.std.proofs.Common.{rules}
use Rattle.tl_syntax.specs.Tokens.{add, subtract, less, greater, equal, unequal}
use Rattle.tl_syntax.proofs.words.long_sign.Goals as goal

pub returns-in-43-eq61-clause-some : goal.returns-in-43-eq61-clause-some
returns-in-43-eq61-clause-some c = add (search rules) (search rules)

pub returns-in-45-eq61-clause-some : goal.returns-in-45-eq61-clause-some
returns-in-45-eq61-clause-some c = subtract (search rules) (search rules)

pub returns-in-60-eq61-clause-some : goal.returns-in-60-eq61-clause-some
returns-in-60-eq61-clause-some c = less (search rules) (search rules)

pub returns-in-62-eq61-clause-some : goal.returns-in-62-eq61-clause-some
returns-in-62-eq61-clause-some c = greater (search rules) (search rules)

pub returns-in-61-eq61-clause-some : goal.returns-in-61-eq61-clause-some
returns-in-61-eq61-clause-some c = equal (search rules) (search rules)

pub returns-in-33-eq61-clause-some : goal.returns-in-33-eq61-clause-some
returns-in-33-eq61-clause-some c = unequal (search rules) (search rules)
