use Rattle.std.proofs.Common.{refl, arith}
use Rattle.tl_core.proofs.StepExits.{holder_read}
use Rattle.tl_core.proofs.ReaderLemmas.{holder_holds}
use Rattle.tl_core.proofs.interleaving.Core.holder.Goals as goal

pub returns-clause-holds : goal.returns-clause-holds
returns-clause-holds c =
    let inside = rw (← c.self.view_is) at c.requires in
    let each = c.self.invariant.core.each_node in
    let there = holder_read c.self.inside.holders.items c.args.node c.args.node c.index.result.now c.index.result.now refl (omega arith) c.index.ensures refl in
    rw (← c.self.view_is) (holder_holds _ _ _ _ _ _ c.self.invariant.core c.args.node c.index.result.now inside there)
