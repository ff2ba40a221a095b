-- The calls before this one are done.
use Rattle.std.proofs.Common.{◌≡◌, ◌<◌, ℕ, true}
use Rattle.tl_tree_locking.specs.History.{is_done}
use Rattle.tl_audit.proofs.auditing.check_done.Given as goal

abbrev pub invariant-loop-call : goal.invariant-loop-call
invariant-loop-call l = (d : ℕ) → d < l.call → is_done d l.trail.past ≡ true
