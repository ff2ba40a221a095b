use Rattle.std.proofs.Common.{ap, refl}
use Rattle.tl_syntax.specs.Tokens.{spellings, one, number}
use Rattle.tl_syntax.proofs.NameLemmas.{extends_same, same_distinct}
use Rattle.tl_syntax.proofs.NumberingLemmas.{pushed_other}
use Rattle.tl_syntax.proofs.lexer.Lexed.push_number.Goals as goal

pub returns-in_ok-push-in-Some-clause-adds : goal.returns-in_ok-push-in-Some-clause-adds
returns-in_ok-push-in-Some-clause-adds c = one (extends_same (ap spellings c.in_ok-push-in-Some.ensures.names)) (number c.in-Some.ensures) c.in_ok-push-in-Some.ensures.tokens

pub returns-in_ok-push-in-Some-clause-distinct : goal.returns-in_ok-push-in-Some-clause-distinct
returns-in_ok-push-in-Some-clause-distinct c = same_distinct _ _ c.in_ok-push-in-Some.ensures.names

pub returns-in_ok-push-in-Some-clause-numbered : goal.returns-in_ok-push-in-Some-clause-numbered
returns-in_ok-push-in-Some-clause-numbered c = pushed_other _ _ _ _ _ _ c.in_ok-push-in-Some.ensures.names c.in_ok-push-in-Some.ensures.tokens refl
