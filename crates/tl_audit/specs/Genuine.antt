-- A call's run alone, replayed along its own locks and frees.
use Rattle.std.specs.Prelude.{◌≡◌, ◌<◌, false, List, [], ◌∷◌, length}
use Rattle.tl_tree.specs.Records.{Records, record_at}
use Rattle.tl_tree_locking.specs.declared.action.Action.{Action}
use Rattle.tl_tree_locking.specs.declared.action.Action.TheVariants.{Lock}
use Rattle.tl_tree_locking.specs.Actions.{freed, emitted, has_ended, locks_and_frees}
use Rattle.tl_tree_locking.specs.Alone.{EndsOnce}
use Rattle.tl_machine.specs.Runs.{Run, actions}
use Rattle.tl_machine.specs.Call.{reply_so_far}
use Rattle.tl_machine.specs.BetweenSteps.{run_left}
use Rattle.tl_machine.specs.Along.{after_done, with_left}
use Rattle.tl_machine.specs.Turns.{TurnValue}

-- Each lock finds the tree's record, and no node is locked after it was freed. The latest action comes first.
abbrev pub AreFit : Records → List Action → Type 0
AreFit t [] = Unit {0}
AreFit t (Lock x found ∷ done) = (x < length t) × (found ≡ record_at t x) × (freed done x ≡ false) × AreFit t done
AreFit t (_ ∷ done) = AreFit t done

-- Some actions lead from the start of the whole run on this tree to the turn, and `so_far` are their locks and frees, the latest first. The run ends.
pub record IsOn (t : Records) (whole : Run) (so_far : List Action) (turn : TurnValue) : Type 0 where
  pub size : length t ≡ length turn.parents
  pub ends : EndsOnce (actions whole)
  pub done : List Action
  pub runs : whole ≡ after_done done (run_left turn.code.instrs turn.parents turn.call (with_left done t))
  pub reply : reply_so_far turn.call ≡ emitted done
  pub told : locks_and_frees done ≡ so_far
  pub goes_on : has_ended done ≡ false
