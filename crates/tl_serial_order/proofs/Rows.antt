-- The orders of the tests' histories, by computation.
use Rattle.std.proofs.Common.{◌≡◌, ℕ, pos, List, [], ◌∷◌, refl}
use Rattle.tl_tree.specs.Records.{Record}
use Rattle.tl_tree_locking.specs.declared.event.Event.{Event}
use Rattle.tl_tree_locking.specs.declared.event.Event.TheVariants.{Admit, Lock, Free, Done}
use Rattle.tl_tree_locking.specs.Ancestors.{climb}
use Rattle.tl_tree_locking.specs.History.{past_of}
use Rattle.tl_tree_locking.specs.Order.{placed}

abbrev zeros : Record
zeros = pos 0 ∷ pos 0 ∷ pos 0 ∷ pos 0 ∷ []

-- a root with two children, and a root with a child that has a child
abbrev fork : List ℕ
fork = 0 ∷ 0 ∷ 0 ∷ []

abbrev chain : List ℕ
chain = 0 ∷ 0 ∷ 1 ∷ []

without_a_lock : placed fork (past_of (Admit 0 ∷ Admit 1 ∷ Lock 0 1 zeros ∷ Free 0 1 zeros ∷ Done 1 ∷ Done 0 ∷ [])) ≡ 1 ∷ 0 ∷ []
unfolding climb
without_a_lock = refl

way_open : placed chain (past_of (Admit 0 ∷ Lock 0 0 zeros ∷ Admit 1 ∷ Lock 2 1 zeros ∷ [])) ≡ 1 ∷ 0 ∷ []
unfolding climb
way_open = refl

way_given_up : placed chain (past_of (Admit 0 ∷ Lock 0 0 zeros ∷ Lock 1 0 zeros ∷ Free 1 0 zeros ∷ Admit 1 ∷ Lock 2 1 zeros ∷ [])) ≡ 0 ∷ 1 ∷ []
unfolding climb
way_given_up = refl

abbrev against_the_rules : List Event
against_the_rules =
    Free 1 9 zeros ∷ Lock 0 7 zeros ∷ Lock 0 3 zeros ∷ Done 7 ∷ Free 0 7 zeros ∷ Lock 0 7 zeros ∷ Lock 1 5 zeros ∷ Free 0 3 zeros ∷ Free 0 7 zeros ∷ Free 0 7 zeros ∷ Lock 1 9 zeros
    ∷ Done 9 ∷ Done 2 ∷ Done 2 ∷ []

order_against_the_rules : placed chain (past_of against_the_rules) ≡ 5 ∷ 7 ∷ 3 ∷ 9 ∷ 2 ∷ []
unfolding climb
order_against_the_rules = refl
