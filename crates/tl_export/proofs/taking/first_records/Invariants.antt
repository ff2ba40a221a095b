use Rattle.std.proofs.Common.{◌≡◌, ◌≤◌, ◌⊎◌, length, map, option_copied}
use Rattle.tl_rows.specs.Rows.{fields_in}
use Rattle.tl_export.specs.Epochs.{known_before, with_new}
use Rattle.tl_export.proofs.taking.first_records.Given as goal

-- the nodes so far have their records, those that were known first
abbrev pub invariant-loop-node : goal.invariant-loop-node
invariant-loop-node l =
    (map fields_in l.rows.items ≡ with_new (known_before l.plan (option_copied l.before)) l._node) × (length (known_before l.plan (option_copied l.before)) ≤ l._node)
    × ((l._node ≤ l.nodes) ⊎ (l._node ≡ length (known_before l.plan (option_copied l.before))))
