use Rattle.tl_tree_locking.proofs.PlacingLemmas.{under-locked, locked-under, may-coming_calls, coming_calls-distinct, may-node, node-may, placed_by_climb, placed_before_nearest, coming_calls-stop}
use Rattle.tl_tree_locking.proofs.laws.placing.Goals as goal

pub returns-clause-locked : goal.returns-clause-locked
returns-clause-locked c = λ parents past call x tree legal pos holds. (under-locked parents past call x, locked-under parents tree past legal call x pos holds)

pub returns-clause-found : goal.returns-clause-found
returns-clause-found c = λ parents past call x tree legal. may-coming_calls parents tree past legal call x

pub returns-clause-once : goal.returns-clause-once
returns-clause-once c = λ parents past x tree legal. coming_calls-distinct parents tree past legal x

pub returns-clause-nodes : goal.returns-clause-nodes
returns-clause-nodes c = λ parents past call x tree legal. (may-node parents tree past legal call x, λ r. node-may parents tree past legal call r.0 x r.1 r.2 r.3 r.4)

pub returns-clause-along : goal.returns-clause-along
returns-clause-along c = λ parents past call x found order tree legal. placed_by_climb parents tree past legal call x found order

pub returns-clause-first : goal.returns-clause-first
returns-clause-first c = λ parents past call x found tree legal. placed_before_nearest parents tree past legal call x found

pub returns-clause-stop : goal.returns-clause-stop
returns-clause-stop c = λ parents past x tree none. coming_calls-stop parents tree past x none
