use Rattle.std.proofs.Common.{sym, ◌∙◌, arith}
use Rattle.tl_core.proofs.OpenCall.{at_read, slot_read, done_read, turn_here}
use Rattle.tl_core.proofs.interleaving.Core.lend.Goals as goal

pub returns-in_default-clause-lent : goal.returns-in_default-clause-lent
returns-in_default-clause-lent c =
    rw (← c.self.view_is) (done_read _ _ _ _ _ _ _ c.self.invariant c.args.call c.index.result.now (omega arith) c.index.ensures (sym c.slot.ensures ∙ c.in_default.is))

pub index-requires-2 : goal.index-requires-2
index-requires-2 c = let slot = slot_read _ _ _ _ _ _ _ c.self.invariant c.args.call c.in-Some.slot c.index.result.now (omega arith) c.index.ensures (sym c.slot.ensures ∙ c.in-Some.is) in omega arith

pub returns-clause-lent : goal.returns-clause-lent
returns-clause-lent c =
    let p = at_read _ _ _ _ _ _ _ c.self.invariant c.args.call c.in-Some.slot c.index.result.now c.index-2.result.now (omega arith) c.index.ensures (sym c.slot.ensures ∙ c.in-Some.is) c.index-2.ensures in
    rw (← c.self.view_is) (record {
      turn = c.index-2.result.now.turn;
      kept = turn_here _ _ _ _ _ _ _ c.self.invariant c.args.call c.in-Some.slot c.index.result.now c.index-2.result.now p;
      is_lent = rw c.in_ok-lend.was at c.lend.ensures;
    })
