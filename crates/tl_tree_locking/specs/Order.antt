-- The order that a history determines, and when an order agrees with a history.
use Rattle.std.specs.Prelude.{◌≡◌, ℕ, Bool, true, false, ◌||◌, List, [], ◌∷◌, ◌++◌, ◌==◌, if◌then◌else◌}
use Rattle.tl_tree_locking.specs.declared.event.Event.{Event}
use Rattle.tl_tree_locking.specs.declared.event.Event.TheVariants.{Admit, Lock, Free, Done}
use Rattle.tl_tree_locking.specs.Actions.{locked, locked_any, may_come}
use Rattle.tl_tree_locking.specs.History.{part_of, is_done}

-- whether c occurs in the order
abbrev pub stands : ℕ → List ℕ → Bool
stands c [] = false
stands c (d ∷ ds) = (d == c) || stands c ds

-- whether d occurs after c
abbrev pub before : List ℕ → ℕ → ℕ → Bool
before [] c d = false
before (e ∷ es) c d = if e == c then stands d es else before es c d

-- no call occurs twice
abbrev pub IsDistinct : List ℕ → Type 0
IsDistinct [] = Unit {0}
IsDistinct (c ∷ cs) = (stands c cs ≡ false) × IsDistinct cs

-- inserts c before the first call that passes the test, or at the end if none does
abbrev pub put_before : (ℕ → Bool) → ℕ → List ℕ → List ℕ
put_before test c [] = c ∷ []
put_before test c (d ∷ ds) = if test d then c ∷ d ∷ ds else d ∷ put_before test c ds

-- The order after an event. At its first lock, of a node x, a call is inserted before the first call that may still lock
-- x, or at the end if there is none. A call that is done without a lock is appended. A call that already occurs isn't
-- inserted again, and the other calls keep their order.
abbrev pub placed_after : List ℕ → List Event → Event → List ℕ → List ℕ
placed_after parents past (Lock x c found) order =
    if stands c order then order else put_before (λ d. may_come parents (part_of d past) x) c order
placed_after parents past (Done c) order = if stands c order then order else order ++ c ∷ []
placed_after parents past (Admit c) order = order
placed_after parents past (Free x c left) order = order

-- the order of a history, built event by event
abbrev pub placed : List ℕ → List Event → List ℕ
placed parents [] = []
placed parents (e ∷ past) = placed_after parents past e (placed parents past)

-- if c locked a node before d locked it, c occurs before d in the order
abbrev pub InLockOrder : List ℕ → List Event → Type 0
InLockOrder order [] = Unit {0}
InLockOrder order (Lock x d found ∷ past) =
    ((c : ℕ) → locked (part_of c past) x ≡ true → before order c d ≡ true) × InLockOrder order past
InLockOrder order (_ ∷ past) = InLockOrder order past

-- no call occurs twice; a call occurs exactly if it has locked a node or is done; calls that locked the same node occur in the order of those locks
pub record Agrees (order : List ℕ) (past : List Event) : Type 0 where
  pub distinct : IsDistinct order
  pub members : (c : ℕ) → stands c order ≡ (locked_any (part_of c past) || is_done c past)
  pub in_lock_order : InLockOrder order past
