-- Calls that were done before another call was admitted.
use Rattle.std.specs.Prelude.{◌≡◌, ℕ, true, List, [], ◌∷◌, ◌++◌, ◌==◌, if◌then◌else◌}
use Rattle.tl_tree_locking.specs.declared.event.Event.{Event}
use Rattle.tl_tree_locking.specs.declared.event.Event.TheVariants.{Admit, Done}
use Rattle.tl_tree_locking.specs.History.{is_done, admits}

-- The end of call a precedes the admission of call b. The history has its latest event first.
pub record EndsBefore (past : List Event) (a b : ℕ) : Type 0 where
  pub later : List Event
  pub earlier : List Event
  pub admission : past ≡ later ++ Admit b ∷ earlier
  pub ended : is_done a earlier ≡ true

-- the number of calls that had been admitted when call c ended
abbrev pub begun_by_end : ℕ → List Event → ℕ
begun_by_end c [] = 0
begun_by_end c (Done d ∷ past) = if d == c then admits past else begun_by_end c past
begun_by_end c (_ ∷ past) = begun_by_end c past
