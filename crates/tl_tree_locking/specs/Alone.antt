-- What one call does alone on a tree, as far as the protocol needs it, and the serial run of several calls.
use Rattle.std.specs.Prelude.{◌≡◌, ◌≢◌, ◌⊎◌, ℕ, ◌<◌, List, [], ◌∷◌, length, ℤ}
use Rattle.tl_tree.specs.Records.{Records, record_at}
use Rattle.tl_tree_locking.specs.declared.action.Action.{Action}
use Rattle.tl_tree_locking.specs.declared.action.Action.TheVariants.{Lock, End}
use Rattle.tl_tree_locking.specs.Actions.{left_in, emitted, taken, PermittedAfter}

-- a call's actions, the earliest first, the tree that it leaves, and its reply
pub record Outcome : Type 0 where
  pub actions : List Action
  pub tree : Records
  pub reply : List ℤ

-- both actions lock the same node and find different records there
abbrev pub FindOther : Action → Action → Type 0
FindOther (Lock x found) (Lock y other) = (x ≡ y) × (found ≢ other)
FindOther _ _ = ⊥

-- the lists are equal, or they are equal up to two locks of one node that find different records
abbrev pub SameUntilFound : List Action → List Action → Type 0
SameUntilFound [] [] = Unit {0}
SameUntilFound [] (b ∷ bs) = ⊥
SameUntilFound (a ∷ actions) [] = ⊥
SameUntilFound (a ∷ actions) (b ∷ bs) = ((a ≡ b) × SameUntilFound actions bs) ⊎ FindOther a b

-- each lock is of a node of the tree and finds that node's record
abbrev pub Finds : Records → List Action → Type 0
Finds t [] = Unit {0}
Finds t (Lock x found ∷ actions) = (x < length t) × (found ≡ record_at t x) × Finds t actions
Finds t (_ ∷ actions) = Finds t actions

-- the last action is the end, and no other action is
abbrev pub EndsOnce : List Action → Type 0
EndsOnce [] = ⊥
EndsOnce (End ∷ actions) = actions ≡ []
EndsOnce (_ ∷ actions) = EndsOnce actions

-- all of these actions, the latest first
abbrev pub all_taken : List Action → List Action
all_taken actions = taken (length actions) actions []

-- What the protocol requires of a call's meaning, on every tree of the shape. On two trees the call does the same until
-- it finds different records. Its locks find the tree's records. It obeys the protocol and ends once. It leaves the
-- records that it freed and changes no others. Its reply is what it emitted.
pub record IsAlone (parents : List ℕ) (alone : Records → Outcome) : Type 0 where
  pub same : (t u : Records) → length t ≡ length parents → length u ≡ length parents
      → SameUntilFound (alone t).actions (alone u).actions
  pub finds : (t : Records) → length t ≡ length parents → Finds t (alone t).actions
  pub obeys : (t : Records) → length t ≡ length parents → PermittedAfter parents [] (alone t).actions
  pub ends : (t : Records) → length t ≡ length parents → EndsOnce (alone t).actions
  pub size : (t : Records) → length t ≡ length parents → length (alone t).tree ≡ length t
  pub leaves : (t : Records) (x : ℕ) → length t ≡ length parents → x < length t
      → record_at (alone t).tree x ≡ left_in (all_taken (alone t).actions) x (record_at t x)
  pub reply : (t : Records) → length t ≡ length parents → (alone t).reply ≡ emitted (all_taken (alone t).actions)

-- the tree after the last call, and the replies in order
pub record SerialOutcome : Type 0 where
  pub tree : Records
  pub replies : List (List ℤ)

-- runs the calls of the order one after another; each starts on the tree that the previous call left
abbrev pub serial : (ℕ → Records → Outcome) → List ℕ → Records → SerialOutcome
serial meanings [] t = record { tree = t; replies = [] }
serial meanings (c ∷ cs) t =
    let rest = serial meanings cs (meanings c t).tree in
    record { tree = rest.tree; replies = (meanings c t).reply ∷ rest.replies }
