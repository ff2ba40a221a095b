use Rattle.std.proofs.Common.{subst}
use Rattle.tl_machine.specs.Turns.{Stops}
use Rattle.tl_core.proofs.FollowAnswers.{none_ends_over}
use Rattle.tl_core.proofs.interleaving.Core.pass_stop.Goals as goal

pub lock_or_block-requires : goal.lock_or_block-requires
lock_or_block-requires c = (c.requires.0, c.requires.1, subst (Stops c.requires.0) c.in-Lock.is c.requires.2)

pub free-requires : goal.free-requires
free-requires c = (c.requires.0, c.requires.1, subst (Stops c.requires.0) c.in-Free.is c.requires.2)

pub end-requires : goal.end-requires
end-requires c = (c.requires.0, c.requires.1, subst (Stops c.requires.0) c.in-Return.is c.requires.2)

pub unreachable-requires : goal.unreachable-requires
unreachable-requires c =
    let next = c.lemma_at_stop.ensures c.requires.0 _ c.requires.1 (subst (Stops c.requires.0) c.in-Over.is c.requires.2) in
    none_ends_over next.next next.ends
