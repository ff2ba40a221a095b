use Rattle.tl_tree_locking.proofs.PlacingLemmas.{keeps_rules, rules_keep, lock_permitted, permitted_lock, under_after}
use Rattle.tl_tree_locking.proofs.Counts.{counts-none_held, none_held-counts}
use Rattle.tl_tree_locking.specs.History.{part_of}
use Rattle.tl_tree_locking.proofs.laws.rules_by_holders.Goals as goal

pub returns-clause-rules : goal.returns-clause-rules
returns-clause-rules c = λ parents past event tree legal. (keeps_rules parents tree past legal event, rules_keep parents tree past legal event)

pub returns-clause-under : goal.returns-clause-under
returns-clause-under c = λ parents past call x found tree legal y. under_after parents tree past call x found legal y

pub returns-clause-lock : goal.returns-clause-lock
returns-clause-lock c = λ parents past call x found tree legal. (lock_permitted parents tree past legal call x found, permitted_lock parents tree past legal call x found)

pub returns-clause-end : goal.returns-clause-end
returns-clause-end c = λ parents past call legal. (none_held-counts parents (part_of call past) (legal.obeys call), counts-none_held parents (part_of call past) (legal.obeys call))
