use Rattle.std.proofs.Common.{refl}
use Rattle.tl_ledger.specs.Contents.{no_contents}
use Rattle.tl_ledger.specs.News.{AreEmpty}
use Rattle.tl_volumes.proofs.carrying.begin.Goals as goal

none : AreEmpty no_contents
none t less = refl

pub returns-in-Ok-clause-begun : goal.returns-in-Ok-clause-begun
returns-in-Ok-clause-begun g c = λ clean held. (c.in-Ok.ensures.marks no_contents none, c.in-Ok.ensures.stored clean no_contents none held)

pub returns-in-Ok-clause-crash : goal.returns-in-Ok-clause-crash
returns-in-Ok-clause-crash g c = λ clean held db found. c.found.ensures.crash clean no_contents none held db found

pub returns-clause-crash : goal.returns-clause-crash
returns-clause-crash g c = λ clean held db found. c.found.ensures.crash clean no_contents none held db found
