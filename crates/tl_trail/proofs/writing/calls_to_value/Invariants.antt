use Rattle.std.proofs.Common.{◌≡◌, map, take}
use Rattle.std.specs.Prelude.{All}
use Rattle.serde_json.specs.View.{view}
use Rattle.tl_trail.specs.Writing.{call_data, FitsText}
use Rattle.tl_trail.proofs.writing.calls_to_value.Given as goal

abbrev pub invariant-loop-call : goal.invariant-loop-call
invariant-loop-call l =
    (map view l.items.items ≡ map (call_data l.trail.procedures) (take l.call l.trail.calls)) × All FitsText (take l.call l.trail.calls)
