use Rattle.std.proofs.Common.{ap, refl, subst}
use Rattle.std.proofs.lemmas.Result.{on_ok_weaker}
use Rattle.tl_syntax.specs.Tokens.{spellings, Begins, nothing, one, sign}
use Rattle.tl_syntax.proofs.NameLemmas.{extends_same, same_distinct}
use Rattle.tl_syntax.proofs.NamesOnce.{begins_no_name}
use Rattle.tl_syntax.proofs.NumberingLemmas.{pushed_other}
use Rattle.tl_syntax.proofs.lexer.Lexed.add.Goals as goal

pub returns-in-Blank-clause-adds : goal.returns-in-Blank-clause-adds
returns-in-Blank-clause-adds c = rw c.in-Blank.is (nothing refl refl)

pub returns-in_ok-push-in-Sign-clause-adds : goal.returns-in_ok-push-in-Sign-clause-adds
returns-in_ok-push-in-Sign-clause-adds c = rw c.in-Sign.is (one (extends_same (ap spellings c.in_ok-push-in-Sign.ensures.names)) sign c.in_ok-push-in-Sign.ensures.tokens)

pub returns-in_ok-push-in-Sign-clause-distinct : goal.returns-in_ok-push-in-Sign-clause-distinct
returns-in_ok-push-in-Sign-clause-distinct c = same_distinct _ _ c.in_ok-push-in-Sign.ensures.names

pub returns-in_ok-push-in-Sign-clause-numbered : goal.returns-in_ok-push-in-Sign-clause-numbered
returns-in_ok-push-in-Sign-clause-numbered c =
    λ first after n begins. pushed_other _ _ _ _ _ _ c.in_ok-push-in-Sign.ensures.names c.in_ok-push-in-Sign.ensures.tokens
    (begins_no_name (subst (λ piece. Begins first after piece n) c.in-Sign.is begins))

pub returns-in-Word-clause-numbered : goal.returns-in-Word-clause-numbered
returns-in-Word-clause-numbered c = on_ok_weaker c.push_word.result (λ h first after n begins. h) c.push_word.ensures.numbered

pub returns-in-Digits-clause-numbered : goal.returns-in-Digits-clause-numbered
returns-in-Digits-clause-numbered c = on_ok_weaker c.push_number.result (λ h first after n begins. h) c.push_number.ensures.numbered
