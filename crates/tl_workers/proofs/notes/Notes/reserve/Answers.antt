use Rattle.std.proofs.Common.{arith}
use Rattle.tl_workers.proofs.notes.Notes.reserve.Goals as goal

pub invariant_of-self-2 : goal.invariant_of-self-2
invariant_of-self-2 c = (
  rw (c.reserve-2.ensures.items, c.reserve-3.ensures.items, c.reserve.ensures.items) c.self.invariant.0,
  omega (arith, c.reserve.new.self.ok, c.in_ok-reserve.ensures.ok),
  (omega (arith, c.reserve-2.new.self.ok, c.in_ok-reserve-2.ensures.ok), omega (arith, c.reserve-2.new.self.ok, c.reserve-2.ensures.len)),
  (omega (arith, c.reserve-3.new.self.ok, c.in_ok-reserve-3.ensures.ok), omega (arith, c.reserve-3.new.self.ok, c.reserve-3.ensures.len)),
)
