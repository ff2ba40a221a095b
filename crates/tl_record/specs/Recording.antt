-- The trail of a core: a record of its calls so far.
use Rattle.std.specs.Prelude.{◌≡◌, ℕ, length, map, Some, None, if◌then◌else◌}
use Rattle.std.specs.List.{range_with_len}
use Rattle.tl_tree_locking.specs.History.{is_done, records_now}
use Rattle.tl_tree_locking.specs.World.{reply_of}
use Rattle.tl_core.specs.Cores.{CoreValue, call_of, world_of}
use Rattle.tl_core.specs.Entries.{procedure_at}
use Rattle.tl_trail.specs.Trails.{CallValue, TrailValue, IsCallOf}

-- the procedure and arguments of call c, and its reply if it is done
abbrev pub told_call : CoreValue → ℕ → CallValue
told_call v c = record {
  procedure = (call_of v c).procedure;
  args = (call_of v c).args;
  reply = if is_done c v.past then Some (reply_of (world_of v) c) else None;
}

-- the opening tree, the procedures, the calls and the events of the core, and its current records
abbrev pub trail_value : CoreValue → TrailValue
trail_value v = record {
  parents = v.parents;
  opening = v.opening;
  procedures = v.procedures;
  calls = map (told_call v) (range_with_len 0 (length v.calls));
  past = v.past;
  ends = records_now v.past v.opening;
}

-- call c is of a procedure of the core, and runs its code
pub record IsCoreCall (v : CoreValue) (c : ℕ) : Type 0 where
  pub fits : IsCallOf v.procedures (told_call v c)
  pub code : (procedure_at v (call_of v c).procedure).code ≡ (call_of v c).code
