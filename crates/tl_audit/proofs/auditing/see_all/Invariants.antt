-- The events so far were right and were recorded, and their calls were replayed along them.
use Rattle.std.proofs.Common.{length, take, reverse}
use Rattle.tl_trail.specs.Clean.{AreRight}
use Rattle.tl_audit.specs.Replaying.{IsFollowed}
use Rattle.tl_audit.specs.Watching.{Shows}
use Rattle.tl_audit.proofs.auditing.see_all.Given as goal

abbrev pub invariant-loop-number : goal.invariant-loop-number
invariant-loop-number g l = record {
  shows : Shows l.trail.parents l.trail.opening (length l.trail.calls) l.watch (reverse (take l.number l.events));
  followed : IsFollowed l.trail (reverse (take l.number l.events)) l.replays;
  right : AreRight l.trail.parents l.trail.opening (reverse (take l.number l.events));
}
