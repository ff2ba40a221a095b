use Rattle.std.proofs.Common.{◌≡◌, ◌<◌, ℕ, true}
use Rattle.tl_tree_locking.specs.History.{is_done}
use Rattle.tl_core.proofs.interleaving.Core.least_unfinished.Given as goal

-- each call before this one is done
abbrev pub invariant-loop-call : goal.invariant-loop-call
invariant-loop-call l = (d : ℕ) → d < l.call → is_done d l.self.seen.past ≡ true
