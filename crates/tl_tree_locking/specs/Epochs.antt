-- Epochs: a sequence of worlds. When an epoch is at rest, the next one opens with the records that it left.
use Rattle.std.specs.Prelude.{◌≡◌, ℕ, List, [], ◌∷◌, ◌++◌, map, ℤ}
use Rattle.tl_tree.specs.Records.{Records}
use Rattle.tl_tree_locking.specs.declared.action.Action.{Action}
use Rattle.tl_tree_locking.specs.History.{AllDone, records_now}
use Rattle.tl_tree_locking.specs.Order.{Agrees, placed}
use Rattle.tl_tree_locking.specs.Alone.{Outcome, SerialOutcome, IsAlone}
use Rattle.tl_tree_locking.specs.World.{World, IsSound, MayTake, reply_of, after_admission, after_step, opening_world}

-- runs these calls one after another; each starts on the tree that the previous call left
abbrev pub run_each : List (Records → Outcome) → Records → SerialOutcome
run_each [] t = record { tree = t; replies = [] }
run_each (alone ∷ rest) t =
    let later = run_each rest (alone t).tree in
    record { tree = later.tree; replies = (alone t).reply ∷ later.replies }

-- the meanings of all calls, in the orders of the epochs, one epoch after another
abbrev pub joined : List World → List (List ℕ) → List (Records → Outcome)
joined [] orders = []
joined (w ∷ ws) [] = []
joined (w ∷ ws) (order ∷ orders) = map w.meanings order ++ joined ws orders

-- the replies of these calls, in the same sequence
abbrev pub joined_replies : List World → List (List ℕ) → List (List ℤ)
joined_replies [] orders = []
joined_replies (w ∷ ws) [] = []
joined_replies (w ∷ ws) (order ∷ orders) = map (reply_of w) order ++ joined_replies ws orders

-- the records that the last epoch leaves, where the first epoch opens with `opening`
abbrev pub left_by : Records → List World → Records
left_by opening [] = opening
left_by opening (w ∷ ws) = left_by (records_now w.past w.opening) ws

-- the first epoch opens with these records, and each later one with the records that its predecessor left; all have the same shape
abbrev pub FollowOn : List ℕ → Records → List World → Type 0
FollowOn parents opening [] = Unit {0}
FollowOn parents opening (w ∷ ws) = (w.parents ≡ parents) × (w.opening ≡ opening) × FollowOn parents (records_now w.past w.opening) ws

-- each epoch is sound, and all its calls are done
abbrev pub AreAtRest : List World → Type 0
AreAtRest [] = Unit {0}
AreAtRest (w ∷ ws) = IsSound w × AllDone w.past × AreAtRest ws

-- each order agrees with the history of its epoch
abbrev pub AgreeEach : List (List ℕ) → List World → Type 0
AgreeEach [] [] = Unit {0}
AgreeEach [] (w ∷ ws) = ⊥
AgreeEach (order ∷ orders) [] = ⊥
AgreeEach (order ∷ orders) (w ∷ ws) = Agrees order w.past × AgreeEach orders ws

-- for each epoch the order that its history determines
abbrev pub placed_each : List World → List (List ℕ)
placed_each ws = map (λ w. placed w.parents w.past) ws

-- The states that admissions, steps and seals reach: the sealed worlds, the earliest first, and the current world. A
-- world may be sealed once all its calls are done; then a new world opens with the records that it left.
pub data ReachedEpochs (parents : List ℕ) (opening : Records) : List World → World → Type 0 where
  Opens : (meanings : ℕ → Records → Outcome) → ReachedEpochs parents opening [] (opening_world parents opening meanings)
  Admits : (sealed : List World) (w : World) (alone : Records → Outcome) → ReachedEpochs parents opening sealed w
      → IsAlone parents alone → ReachedEpochs parents opening sealed (after_admission w alone)
  Moves : (sealed : List World) (w : World) (c : ℕ) (next : Action) → ReachedEpochs parents opening sealed w
      → MayTake w c next → ReachedEpochs parents opening sealed (after_step w c next)
  Seals : (sealed : List World) (w : World) (meanings : ℕ → Records → Outcome) → ReachedEpochs parents opening sealed w
      → AllDone w.past
      → ReachedEpochs parents opening (sealed ++ w ∷ []) (opening_world parents (records_now w.past w.opening) meanings)
