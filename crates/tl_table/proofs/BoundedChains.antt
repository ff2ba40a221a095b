-- The calls of all epochs together execute no more instructions than their budgets allow.
use Rattle.std.proofs.Common.{◌+◌, ◌≤◌, List, [], ◌∷◌, arith}
use Rattle.std.proofs.lemmas.List.Elements.{All-head, All-tail}
use Rattle.tl_core.specs.Cores.{all_budgets}
use Rattle.tl_core.proofs.Sums.{total-less}
use Rattle.tl_table.specs.Bounds.{IsBounded, AreBounded, steps_done, all_steps_done, all_budgets_of}
use Rattle.tl_table.specs.Epochs.{EpochValue, seen}

epoch_within : (e : EpochValue) → IsBounded (seen e) → steps_done e ≤ all_budgets (seen e)
epoch_within e bounded = total-less _ _ _ bounded.steps

pub all_within : (es : List EpochValue) → AreBounded es → all_steps_done es ≤ all_budgets_of es
all_within [] bounded = omega arith
all_within (e ∷ es) bounded =
    let first = epoch_within e (All-head (λ (x : EpochValue). IsBounded (seen x)) e es bounded) in
    let rest = all_within es (All-tail (λ (x : EpochValue). IsBounded (seen x)) e es bounded) in
    let all : steps_done e + all_steps_done es ≤ all_budgets (seen e) + all_budgets_of es = omega arith in
    all
