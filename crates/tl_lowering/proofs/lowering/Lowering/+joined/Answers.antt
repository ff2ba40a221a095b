use Rattle.std.proofs.Common.{◌-◌, ◌/◌, refl, arith}
use Rattle.tl_lowering.proofs.JoinLemmas.{joins_few, joins_halves}
use Rattle.tl_lowering.proofs.PathLemmas.{few, halved, ok_more}
use Rattle.tl_lowering.proofs.lowering.Lowering.+joined.Goals as goal

pub returns-then-count-lt2-clause-whole : goal.returns-then-count-lt2-clause-whole
returns-then-count-lt2-clause-whole t c = (few _ _ _ _ _ _ _ c.requires.some c.if-count-lt2.true c.requires.fits c.next.ensures.cases c.unwrap_or.ensures).0

pub returns-then-count-lt2-clause-rest : goal.returns-then-count-lt2-clause-rest
returns-then-count-lt2-clause-rest t c = (few _ _ _ _ _ _ _ c.requires.some c.if-count-lt2.true c.requires.fits c.next.ensures.cases c.unwrap_or.ensures).1

pub returns-clause-whole : goal.returns-clause-whole
returns-clause-whole t c =
    ok_more c.then.result _ _ c.then.ensures.pair
    (λ s is. halved c.args.count (c.args.count / 2) (c.args.count - c.args.count / 2) _ _ s _ _ (omega arith) is c.in_ok-first.ensures.whole c.in_ok-first.ensures.rest c.in_ok-second.ensures.whole)

pub returns-then-count-lt2-clause-named : goal.returns-then-count-lt2-clause-named
returns-then-count-lt2-clause-named t c = joins_few _ _ _ _ _ _ _ c.requires.some c.if-count-lt2.true c.requires.fits c.next.ensures.cases c.unwrap_or.ensures

pub returns-clause-named : goal.returns-clause-named
returns-clause-named t c =
    ok_more c.then.result _ _ c.then.ensures.named
    (λ s is.
    joins_halves c.args.count (c.args.count / 2) _ _ s _ _ (omega (arith, c.if-count-lt2.false)) (omega (arith, c.requires.fits, c.requires.all)) refl is c.in_ok-first.ensures.named c.in_ok-first.ensures.rest c.in_ok-second.ensures.named)
