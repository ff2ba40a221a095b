use Rattle.std.proofs.Common.{rules, tests, not}
use Rattle.std.proofs.lemmas.Iterator.{YieldsList-from_slice}
use Rattle.std.proofs.lemmas.Iterator.Search.{position_from_yields_List}
use Rattle.tl_asm.specs.Words.{is_blank}
use Rattle.tl_asm.proofs.ByteSearch.{searched}
use Rattle.tl_asm.proofs.word.indent.Goals as goal

pub returns : goal.returns
returns c = searched (λ b. not (is_blank b)) c.args.line.now c.position.result c.unwrap_or.result (position_from_yields_List (λ b. not (is_blank b)) _ _ c.position.result c.position.ensures.ran (YieldsList-from_slice c.args.line.now c.iter.ensures.rest) (λ x b q k. search (rules, tests))) (search rules)
