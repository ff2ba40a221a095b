use Rattle.std.proofs.Common.{◌≡◌, map, take}
use Rattle.tl_tree_locking.specs.History.{caller}
use Rattle.tl_store.proofs.closing.calls_of.Given as goal

-- the calls so far are those of the first events
abbrev pub invariant-loop-event : goal.invariant-loop-event
invariant-loop-event l = l.calls.items ≡ map caller (take l.event-index l.events)
