use Rattle.std.proofs.Common.{rules, arith, vec_capacity}
use Rattle.tl_core.proofs.NewCore.{opened_of}
use Rattle.tl_core.proofs.interleaving.Core.with_procedures.Goals as goal

pub invariant_of-result : goal.invariant_of-result
invariant_of-result c =
    opened_of c.args.tree (rw c.tree.view_is at c.tree.invariant) c.args.procedures c.args.limit c.in_ok-holders.holders.items (search rules) c.in-Ok.latest c.in-Ok.ensures.ok
    c.new.result.items c.new.ensures.items c.in_ok-slots.slots.items c.in_ok-slots.ensures.items c.new-2.result c.new-2.ensures (vec_capacity c.in_ok-slots.slots) (let exact = c.in_ok-slots.ensures.exact in omega arith)
