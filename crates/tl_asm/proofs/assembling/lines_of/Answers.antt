use Rattle.std.proofs.Common.{lit<, ◌≡◌, subst, map}
use Rattle.std.specs.Prelude.{IfOk}
use Rattle.std.proofs.lemmas.Iterator.Consumers.{map_from_collect}
use Rattle.std.proofs.lemmas.Iterator.Splits.{YieldsList-from_str_split}
use Rattle.tl_asm.specs.Words.{lines_of}
use Rattle.tl_asm.proofs.assembling.lines_of.Goals as goal

pub returns-clause-lines : goal.returns-clause-lines
returns-clause-lines c =
    subst (λ r. IfOk r (λ v. map (λ line. line.now) v.items ≡ lines_of c.args.text.now)) c.in_ok-collect.was
    (map_from_collect c.collect.result c.collect.ensures.ran (YieldsList-from_str_split 10 c.args.text.now (lit< tt) c.split.ensures.text c.split.ensures.has_more c.split.ensures.pattern))
