use Rattle.std.proofs.Common.{◌≡◌, ◌++◌, pos, replicate}
use Rattle.tl_width.specs.Fields.{field_count}
use Rattle.tl_pending.proofs.pending.push_zeros.Given as goal

-- this number of zero records was added
abbrev pub invariant-loop-added : goal.invariant-loop-added
invariant-loop-added l = l.records.items ≡ l.initial.records.items ++ replicate l.added (replicate field_count (pos 0))
