use Rattle.std.proofs.Common.{rules, tests}
use Rattle.std.proofs.lemmas.Iterator.{YieldsList-from_slice}
use Rattle.std.proofs.lemmas.Iterator.Search.{all_from_yields_List}
use Rattle.tl_asm.specs.Tokens.{continues_label}
use Rattle.tl_asm.proofs.token.all_continue.Goals as goal

pub returns : goal.returns
returns c = all_from_yields_List continues_label _ _ c.all.result c.all.ensures.ran (YieldsList-from_slice c.args.word.now c.iter.ensures.rest) (λ x b q k. search (rules, tests))
