use Rattle.std.proofs.Common.{◌≡◌, map, take}
use Rattle.serde_json.specs.View.{view}
use Rattle.tl_commands.specs.Trace.{entry_data}
use Rattle.tl_commands.proofs.trace.entries_to_value.Given as goal

abbrev pub invariant-loop-entry : goal.invariant-loop-entry
invariant-loop-entry l = map view l.items.items ≡ map entry_data (take l.entry-index l.entries)
