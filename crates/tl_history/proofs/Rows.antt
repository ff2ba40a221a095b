-- Worked examples, by computation.
use Rattle.std.proofs.Common.{◌≡◌, ℕ, [], ◌∷◌, refl}
use Rattle.tl_tree_locking.specs.declared.event.Event.TheVariants.{Admit}
use Rattle.tl_history.specs.Stored.{Stored, room_of}

-- a history with two events
abbrev stored : ℕ → ℕ → Stored
stored limit reserved = record { past = Admit 1 ∷ Admit 0 ∷ []; limit = limit; reserved = reserved }

some_room : room_of (stored 9 3) ≡ 4
some_room = refl

one_place : room_of (stored 9 6) ≡ 1
one_place = refl

no_room : room_of (stored 9 7) ≡ 0
no_room = refl
