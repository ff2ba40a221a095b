use Rattle.std.proofs.Common.{◌≡◌, ◌+◌, take, length, reverse}
use Rattle.tl_record.proofs.recording.history_of.Given as goal

abbrev pub invariant-loop-event : goal.invariant-loop-event
invariant-loop-event l = record { past : l.copy.past ≡ reverse (take l.event-index l.events); places : l.copy.reserved + l.event-index ≡ length l.events }
