use Rattle.std.proofs.Common.{◌≡◌, drop, length, map}
use Rattle.std.specs.Prelude.{All}
use Rattle.tl_trail.specs.Trails.{IsCallOf, call_value}
use Rattle.tl_trail.specs.Reading.{each_call}
use Rattle.tl_trail.specs.Raw.{call_form}
use Rattle.tl_trail.proofs.CallsTaken.{onto_calls}
use Rattle.tl_trail.proofs.reading.checked_each_call.Given as goal

abbrev pub invariant-loop-one : goal.invariant-loop-one
invariant-loop-one l = record {
  so_far : onto_calls (map call_value l.calls.items) (each_call l.procedures (map call_form (drop l.one-index l.raw))) ≡ each_call l.procedures (map call_form l.raw);
  calls : All (IsCallOf l.procedures) (map call_value l.calls.items);
  count : length l.calls.items ≡ l.one-index;
}
