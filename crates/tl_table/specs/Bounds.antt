-- Bounds for what the calls of epochs have done.
use Rattle.std.specs.Prelude.{ℕ, ◌+◌, ◌<◌, ◌≤◌, List, [], ◌∷◌, length, All}
use Rattle.tl_budget.specs.Loops.{budget, lock_bound, emit_bound}
use Rattle.tl_tree_locking.specs.Actions.{lock_count}
use Rattle.tl_tree_locking.specs.Obeys.{Obeys}
use Rattle.tl_machine.specs.Runs.{emits_of}
use Rattle.tl_core.specs.Cores.{CoreValue, code_of, done_by, total, all_budgets}
use Rattle.tl_table.specs.Epochs.{EpochValue, seen}

-- The actions of each call of the core obey the tree protocol and are within the bounds of its procedure.
pub record IsBounded (v : CoreValue) : Type 0 where
  pub obeys : (c : ℕ) → c < length v.calls → Obeys v.parents (done_by v c)
  pub steps : (c : ℕ) → c < length v.calls → length (done_by v c) ≤ budget (code_of v c)
  pub locks : (c : ℕ) → c < length v.calls → lock_count (done_by v c) ≤ lock_bound (code_of v c)
  pub emits : (c : ℕ) → c < length v.calls → length (emits_of (done_by v c)) ≤ emit_bound (code_of v c)

-- the same for the calls of each epoch
abbrev pub AreBounded : List EpochValue → Type 0
AreBounded es = All (λ e. IsBounded (seen e)) es

-- the number of instructions that all calls of an epoch have executed
abbrev pub steps_done : EpochValue → ℕ
steps_done e = total (λ c. length (done_by (seen e) c)) (length (seen e).calls)

-- the number of instructions that all calls of all epochs have executed, and below an upper bound for it
abbrev pub all_steps_done : List EpochValue → ℕ
all_steps_done [] = 0
all_steps_done (e ∷ es) = steps_done e + all_steps_done es

abbrev pub all_budgets_of : List EpochValue → ℕ
all_budgets_of [] = 0
all_budgets_of (e ∷ es) = all_budgets (seen e) + all_budgets_of es
