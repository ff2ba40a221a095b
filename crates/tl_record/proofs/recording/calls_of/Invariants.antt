use Rattle.std.proofs.Common.{◌≡◌, ℕ, ◌<◌, ◌≤◌, map, vec_capacity, vec_len}
use Rattle.std.specs.List.{range_with_len}
use Rattle.tl_trail.specs.Trails.{call_value}
use Rattle.tl_record.specs.Recording.{told_call, IsCoreCall}
use Rattle.tl_record.proofs.recording.calls_of.Given as goal

abbrev pub invariant-loop-call : goal.invariant-loop-call
invariant-loop-call l = record {
  calls : map call_value l.calls.items ≡ map (told_call l.core.seen) (range_with_len 0 l.call);
  each : (c : ℕ) → c < l.call → IsCoreCall l.core.seen c;
  size : vec_len l.calls ≡ l.call;
  space : l.call-end ≤ vec_capacity l.calls;
}
