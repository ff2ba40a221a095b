use Rattle.std.proofs.Common.{◌≡◌, ◌≤◌, ◌++◌, length, drop}
use Rattle.tl_tree_locking.specs.Alone.{serial}
use Rattle.tl_core.specs.Cores.{world_of}
use Rattle.tl_serial.proofs.replaying.replay.Given as goal

-- the remaining calls, run from the tree so far, leave the final tree; their replies follow those so far
abbrev pub invariant-loop-call : goal.invariant-loop-call
invariant-loop-call l =
    (l.tree.parents ≡ l.core.seen.parents)
    × (l.replies.len ≡ l.call-index)
    × (length l.calls ≤ l.replies.cap)
    × ((serial (world_of l.core.seen).meanings (drop l.call-index l.calls) l.tree.records).tree ≡ (serial (world_of l.core.seen).meanings l.calls l.core.seen.opening).tree)
    × (l.replies.items ++ (serial (world_of l.core.seen).meanings (drop l.call-index l.calls) l.tree.records).replies ≡ (serial (world_of l.core.seen).meanings l.calls l.core.seen.opening).replies)
