use Rattle.tl_pending.specs.Pendings.{AddsAll}
use Rattle.tl_pending.proofs.pending.Pending.add_all.Given as goal

-- the news of the first epochs was added
abbrev pub invariant-loop-epoch : goal.invariant-loop-epoch
invariant-loop-epoch l = AddsAll l.yielded l.initial.self l.self
