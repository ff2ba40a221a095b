use Rattle.std.proofs.Common.{◌≡◌, ◌++◌, drop}
use Rattle.std.specs.List.{filter_map}
use Rattle.tl_compare.specs.Epochs.{ended}
use Rattle.tl_compare.proofs.replies.ends_in.Given as goal

-- the ends so far, and those of the events that are left, are those of all
abbrev pub invariant-loop-event : goal.invariant-loop-event
invariant-loop-event l = l.ends.items ++ filter_map ended (drop l.event-index l.events) ≡ filter_map ended l.events
