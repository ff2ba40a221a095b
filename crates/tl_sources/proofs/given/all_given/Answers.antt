use Rattle.std.proofs.Common.{refl}
use Rattle.tl_sources.proofs.GivenLemmas.{give_more, refused_at}
use Rattle.tl_sources.proofs.given.all_given.Goals as goal

pub returns-in-Err-clause-fault : goal.returns-in-Err-clause-fault
returns-in-Err-clause-fault c = λ known. refused_at c.args.files.now c.loop-number.number _ c.loop-number.all.items _ c.loop-number-test.true c.loop-number.invariant (c.in-Err.ensures.fault known) refl

pub loop-number-preserved : goal.loop-number-preserved
loop-number-preserved c =
    give_more c.args.files.now c.loop-number.number _ c.loop-number.all.items c.in-Ok.found.items c.append.new.self.items c.loop-number-test.true c.loop-number.invariant c.in-Ok.ensures.ok c.in-Ok-append.ensures.items
