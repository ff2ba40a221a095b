use Rattle.std.proofs.Common.{◌≡◌, ◌+◌, ◌<◌, drop, length, reverse}
use Rattle.std.specs.Prelude.{All}
use Rattle.tl_tree.proofs.Items.{onto}
use Rattle.tl_tree_locking.specs.History.{caller}
use Rattle.tl_tree_locking.specs.Nodes.{IsOfNodes}
use Rattle.tl_trail.specs.Reading.{events_as}
use Rattle.tl_trail.proofs.reading.checked_history.Given as goal

abbrev pub invariant-loop-form : goal.invariant-loop-form
invariant-loop-form l = record {
  so_far : onto (reverse l.history.past) (events_as l.calls l.nodes (drop l.form-index l.forms)) ≡ events_as l.calls l.nodes l.forms;
  count : length l.history.past ≡ l.form-index;
  room : l.history.reserved + l.form-index ≡ length l.forms;
  nodes : All (IsOfNodes l.nodes) l.history.past;
  callers : All (λ e. caller e < l.calls) l.history.past;
}
