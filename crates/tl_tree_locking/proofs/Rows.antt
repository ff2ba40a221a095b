-- Example histories, checked by computation.
use Rattle.std.proofs.Common.{◌≡◌, ℕ, pos, true, false, List, [], ◌∷◌, refl, inl, Some, None, take}
use Rattle.tl_tree.specs.Records.{Record, Records}
use Rattle.tl_tree_locking.specs.declared.action.Action.TheVariants as A
use Rattle.tl_tree_locking.specs.declared.event.Event.{Event}
use Rattle.tl_tree_locking.specs.declared.event.Event.TheVariants.{Admit, Lock, Free, Done}
use Rattle.tl_tree_locking.specs.Ancestors.{climb, nodes_above}
use Rattle.tl_tree_locking.specs.Actions.{may_come}
use Rattle.tl_tree_locking.specs.History.{past_of, part_of, records_now, Follows}
use Rattle.tl_tree_locking.specs.Order.{placed}
use Rattle.tl_tree_locking.specs.Alone.{IsAlone}
use Rattle.tl_tree_locking.specs.Holders.{holder_of}

-- a record with this first field
abbrev record_of : ℕ → Record
record_of n = pos n ∷ pos 0 ∷ pos 0 ∷ pos 0 ∷ []

-- ---- the order against the clock

-- a root with two children, whose records begin with 0, 10 and 20
abbrev two_children : List ℕ
two_children = 0 ∷ 0 ∷ 0 ∷ []

abbrev opening : Records
opening = record_of 0 ∷ record_of 10 ∷ record_of 20 ∷ []

-- The earliest event first. Call 0 locks the root and node 1, and leaves 11 there. Then call 1 uses node 1 and is done.
-- Then call 2 uses node 2, leaves 22 there, and is done. Only then does call 0 lock node 2.
abbrev against_the_clock : List Event
against_the_clock =
    Admit 0 ∷ Lock 0 0 (record_of 0) ∷ Lock 1 0 (record_of 10) ∷ Free 1 0 (record_of 11) ∷ Admit 1 ∷ Lock 1 1 (record_of 11) ∷ Free 1 1 (record_of 11) ∷ Done 1
    ∷ Admit 2 ∷ Lock 2 2 (record_of 20) ∷ Free 2 2 (record_of 22) ∷ Done 2 ∷ Lock 2 0 (record_of 22) ∷ Free 2 0 (record_of 22) ∷ Free 0 0 (record_of 0) ∷ Done 0 ∷ []

-- call 0 is in the order from its lock of the root on
order_at_first_lock : placed two_children (past_of (take 2 against_the_clock)) ≡ 0 ∷ []
unfolding climb
order_at_first_lock = refl

-- when call 1 locks node 1, call 0 may no longer lock it
order_at_second_call : placed two_children (past_of (take 6 against_the_clock)) ≡ 0 ∷ 1 ∷ []
unfolding climb
order_at_second_call = refl

-- when call 2 locks node 2, call 0 may still lock it
order_at_third_call : placed two_children (past_of (take 10 against_the_clock)) ≡ 2 ∷ 0 ∷ 1 ∷ []
unfolding climb
order_at_third_call = refl

order_at_end : placed two_children (past_of against_the_clock) ≡ 2 ∷ 0 ∷ 1 ∷ []
unfolding climb
order_at_end = refl

records_at_end : records_now (past_of against_the_clock) opening ≡ record_of 0 ∷ record_of 11 ∷ record_of 22 ∷ []
records_at_end = refl

each_finds_its_record : Follows opening (past_of against_the_clock)
each_finds_its_record = (refl, (refl, (refl, (refl, (refl, tt)))))

-- the holders after call 2 has locked its node
root_held : holder_of (past_of (take 10 against_the_clock)) 0 ≡ Some 0
root_held = refl

first_child_free : holder_of (past_of (take 10 against_the_clock)) 1 ≡ None
first_child_free = refl

second_child_held : holder_of (past_of (take 10 against_the_clock)) 2 ≡ Some 2
second_child_held = refl

-- the actions of call 1, the latest first
part_of_second_call : part_of 1 (past_of against_the_clock) ≡ A.End ∷ A.Free 1 (record_of 11) ∷ A.Lock 1 (record_of 11) ∷ []
part_of_second_call = refl

-- ---- where a call may still come, on a path of three nodes

abbrev path : List ℕ
path = 0 ∷ 0 ∷ 1 ∷ []

above_the_last : nodes_above path 2 ≡ 1 ∷ 0 ∷ []
unfolding climb
above_the_last = refl

-- a call that holds the root may still lock the last node
from_the_root : may_come path (A.Lock 0 (record_of 0) ∷ []) 2 ≡ true
unfolding climb
from_the_root = refl

-- so may a call that locked node 1 under the root and then freed the root
hand_over_hand : may_come path (A.Free 0 (record_of 0) ∷ A.Lock 1 (record_of 0) ∷ A.Lock 0 (record_of 0) ∷ []) 2 ≡ true
unfolding climb
hand_over_hand = refl

-- a call that has freed node 1 may not, though it still holds the root
way_given_up : may_come path (A.Free 1 (record_of 0) ∷ A.Lock 1 (record_of 0) ∷ A.Lock 0 (record_of 0) ∷ []) 2 ≡ false
unfolding climb
way_given_up = refl

-- a call that began below the root may not lock the root
never_up : may_come path (A.Lock 1 (record_of 0) ∷ []) 0 ≡ false
unfolding climb
never_up = refl

-- a call that is done without a lock is appended
done_without_lock : placed path (past_of (Admit 0 ∷ Admit 1 ∷ Done 1 ∷ Lock 0 0 (record_of 0) ∷ [])) ≡ 1 ∷ 0 ∷ []
unfolding climb
done_without_lock = refl

-- ---- a call that ends at once has a meaning alone

ends_at_once : (parents : List ℕ) → IsAlone parents (λ t. record { actions = A.End ∷ []; tree = t; reply = [] })
ends_at_once parents = record {
  same = λ t u lt lu. inl (refl, tt);
  finds = λ t lt. tt;
  obeys = λ t lt. ((λ x. refl), refl, tt);
  ends = λ t lt. refl;
  size = λ t lt. refl;
  leaves = λ t x lt inside. refl;
  reply = λ t lt. refl;
}
