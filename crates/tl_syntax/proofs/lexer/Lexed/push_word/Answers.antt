use Rattle.std.proofs.Common.{ap}
use Rattle.tl_syntax.specs.Tokens.{spellings, one, reserved}
use Rattle.tl_syntax.proofs.NameLemmas.{extends_same, named, same_distinct, distinct_spellings}
use Rattle.tl_syntax.proofs.NamesOnce.{word_no_name}
use Rattle.tl_syntax.proofs.NumberingLemmas.{pushed_other, pushed_name}
use Rattle.tl_syntax.proofs.lexer.Lexed.push_word.Goals as goal

pub returns-in-Some-clause-adds : goal.returns-in-Some-clause-adds
returns-in-Some-clause-adds c = one (extends_same (ap spellings c.in_ok-push.ensures.names)) (reserved c.in-Some.ensures.some) c.in_ok-push.ensures.tokens

pub returns-clause-adds : goal.returns-clause-adds
returns-clause-adds c =
    named c.args.self.now.names.keys c.insert_full.new.self.keys c.push-2.new.self.names.keys c.args.word c.in_ok-index.index c.args.offset
    c.args.self.now.tokens.items c.push-2.new.self.tokens.items c.in_ok-index.ensures.keys c.in_ok-index.ensures.stored
    c.in_ok-push-2.ensures.names c.in_default.ensures.none c.if-word-gt-MAX_NAME.false c.in_ok-push-2.ensures.tokens

pub returns-in-Some-clause-distinct : goal.returns-in-Some-clause-distinct
returns-in-Some-clause-distinct c = same_distinct _ _ c.in_ok-push.ensures.names

pub returns-clause-distinct : goal.returns-clause-distinct
returns-clause-distinct c =
    λ before. same_distinct c.insert_full.new.self.keys c.push-2.new.self.names.keys c.in_ok-push-2.ensures.names
    (distinct_spellings c.insert_full.new.self.keys c.in_ok-index.ensures.unique)

pub returns-in-Some-clause-numbered : goal.returns-in-Some-clause-numbered
returns-in-Some-clause-numbered c = pushed_other _ _ _ _ _ _ c.in_ok-push.ensures.names c.in_ok-push.ensures.tokens (word_no_name c.in-Some.ensures.some)

pub returns-clause-numbered : goal.returns-clause-numbered
returns-clause-numbered c =
    pushed_name c.args.self.now.tokens.items c.push-2.new.self.tokens.items c.args.self.now.names.keys c.insert_full.new.self.keys c.push-2.new.self.names.keys c.args.word
    c.in_ok-index.index c.args.offset c.in_ok-index.ensures.keys c.in_ok-index.ensures.stored c.in_ok-index.ensures.unique c.in_ok-push-2.ensures.names c.in_ok-push-2.ensures.tokens
