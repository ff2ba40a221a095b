use Rattle.std.proofs.Common.{◌∙◌, refl, arith, Some, None}
use Rattle.tl_core.proofs.StepExits.{holder_read}
use Rattle.tl_core.proofs.LedCores.{segment_slot, in_its_way, out_of_its_way}
use Rattle.tl_core.proofs.interleaving.Core.in_the_way.Goals as goal

pub index-requires : goal.index-requires
index-requires c =
    let kept = rw (← c.self.view_is) at c.requires.3 in
    let slot = segment_slot _ _ _ _ _ _ _ c.self.invariant c.args.call c.requires.0 kept c.requires.1 c.in-Lock.node (c.requires.2 ∙ c.in-Lock.is) in
    omega arith

pub returns-in_err-holder-clause-none : goal.returns-in_err-holder-clause-none
returns-in_err-holder-clause-none c =
    let kept = rw (← c.self.view_is) at c.requires.3 in
    let locks = c.requires.2 ∙ c.in-Lock.is in
    let slot = segment_slot _ _ _ _ _ _ _ c.self.invariant c.args.call c.requires.0 kept c.requires.1 c.in-Lock.node locks in
    let free = holder_read c.self.inside.holders.items c.in-Lock.node c.in-Lock.node c.index.result.now None refl slot c.index.ensures c.in_err-holder.was in
    rw (← c.self.view_is, ← c.requires.2) (λ none. out_of_its_way _ _ _ _ _ _ _ c.self.invariant c.args.call c.requires.0 kept c.requires.1 c.in-Lock.node locks free)

pub returns-clause-some : goal.returns-clause-some
returns-clause-some c =
    let kept = rw (← c.self.view_is) at c.requires.3 in
    let locks = c.requires.2 ∙ c.in-Lock.is in
    let slot = segment_slot _ _ _ _ _ _ _ c.self.invariant c.args.call c.requires.0 kept c.requires.1 c.in-Lock.node locks in
    let held = holder_read c.self.inside.holders.items c.in-Lock.node c.in-Lock.node c.index.result.now (Some c.in_ok-holder.holder) refl slot c.index.ensures c.in_ok-holder.was in
    rw (← c.self.view_is, ← c.requires.2) (in_its_way _ _ _ _ _ _ _ c.self.invariant c.args.call c.requires.0 kept c.requires.1 c.in-Lock.node c.in_ok-holder.holder locks held)
