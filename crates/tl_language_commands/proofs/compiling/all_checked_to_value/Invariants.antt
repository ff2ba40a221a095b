use Rattle.std.proofs.Common.{◌≡◌, map}
use Rattle.serde_json.specs.View.{view}
use Rattle.tl_language_commands.specs.Compiling.{checked_data}
use Rattle.tl_language_commands.proofs.compiling.all_checked_to_value.Given as goal

abbrev pub invariant-loop-one : goal.invariant-loop-one
invariant-loop-one l = map view l.items.items ≡ map checked_data l.yielded
