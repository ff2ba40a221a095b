-- One pass over the positions in rising order: the states that it records and the faults that it finds.
use Rattle.std.specs.Prelude.{◌≡◌, ◌≢◌, ◌⊎◌, ◌&&◌, not, ℕ, suc, ◌+◌, List, [], ◌∷◌, Bool, true, false, Option, Some, None, nat_le}
use Rattle.tl_instr.specs.declared.instr.Instr.{Instr}
use Rattle.tl_instr.specs.declared.instr.Instr.TheVariants.{End}
use Rattle.tl_verify.specs.declared.marks.Marks.{Marks}
use Rattle.tl_verify.specs.declared.arrivals.Arrivals.{Arrivals}
use Rattle.tl_verify.specs.Marks.{is_held, source, destination, is_first, is_return, goes_on}
use Rattle.tl_verify.specs.Findings.{Finding, Joined, Spent, Missing, Taken, LeftHeld, Changed, NextPastEnd}

-- `new` is the summary `old` with the state m added
pub record MergesWith (old : Arrivals) (m : Marks) (new : Arrivals) : Type 0 where
  pub held : new.marks.held ≡ old.marks.held
  pub is_open : new.marks.is_open ≡ (old.marks.is_open && m.is_open)
  pub alike : new.differ ≡ false → (old.differ ≡ false) × (old.marks.held ≡ m.held)
  pub differs : new.differ ≡ true → (old.differ ≡ true) ⊎ (old.marks.held ≢ m.held)

abbrev pub Merges : Option Arrivals → Marks → Arrivals → Type 0
Merges None m new = new ≡ record { marks = m; differ = false }
Merges (Some old) m new = MergesWith old m new

-- the first of the two that is present
abbrev pub or_else : Option Finding → Option Finding → Option Finding
or_else (Some f) g = Some f
or_else None g = g

abbrev pub when : Bool → Finding → Option Finding
when true f = Some f
when false f = None

-- the fault of a register that must hold a node and is empty
abbrev pub missing : ℕ → Marks → Option ℕ → Option Finding
missing p m (Some n) = when (not (is_held m n)) (Missing p n)
missing p m None = None

-- the fault of a register that must be empty and holds a node
abbrev pub taken : ℕ → Marks → Option ℕ → Option Finding
taken p m (Some n) = when (is_held m n) (Taken p n)
taken p m None = None

-- the lowest register that holds a node, counted from n
abbrev pub first_held : List Bool → ℕ → Option ℕ
first_held [] n = None
first_held (true ∷ bs) n = Some n
first_held (false ∷ bs) n = first_held bs (suc n)

abbrev pub left_held : ℕ → Bool → Option ℕ → Option Finding
left_held p true (Some n) = Some (LeftHeld p n)
left_held p true None = None
left_held p false o = None

abbrev pub is_end : Instr → Bool
is_end End = true
is_end i = false

-- At the end of a loop, `changed` says whether the state m differs from the summary of the body's start: other registers
-- are held, or `first` is spent in m and open in the summary. Elsewhere `changed` is false.
pub record Compares (i : Instr) (start : Option Arrivals) (m : Marks) (changed : Bool) : Type 0 where
  pub changes : changed ≡ true → (a : Arrivals) × (is_end i ≡ true) × (start ≡ Some a) × ((m.held ≢ a.marks.held) ⊎ ((a.marks.is_open ≡ true) × (m.is_open ≡ false)))
  pub keeps : changed ≡ false → is_end i ≡ true → (a : Arrivals) → start ≡ Some a → (m.held ≡ a.marks.held) × (a.marks.is_open ≡ true → m.is_open ≡ true)

-- the first fault of registers under these marks, otherwise `rest`
abbrev pub of_registers : ℕ → Instr → Marks → Option Finding → Option Finding
of_registers p i m rest =
    or_else (when (is_first i && not m.is_open) (Spent p))
    (or_else (missing p m (source i))
    (or_else (taken p m (destination i))
    (or_else (left_held p (is_return i) (first_held m.held 0)) rest)))

-- the first fault of registers at position p in a code of `count` instructions; control may go on to the position after
-- `far`, and `changed` says whether a turn changes the marks
unfoldable pub objection : ℕ → ℕ → ℕ → Instr → Arrivals → Bool → Option Finding
objection count far p i a changed =
    or_else (when a.differ (Joined p))
    (of_registers p i a.marks
    (or_else (when changed (Changed p))
    (when (goes_on i && nat_le count (far + 1)) (NextPastEnd p))))
