-- What an instruction requires of the node registers, and how it changes them.
use Rattle.std.specs.Prelude.{◌≡◌, ℕ, ◌+◌, List, [], ◌∷◌, Bool, true, false, Option, Some, None, slice_set, get_or, replicate}
use Rattle.tl_instr.specs.declared.operand.TheConstants.{NODE_REGISTERS}
use Rattle.tl_instr.specs.declared.instr.Instr.{Instr}
use Rattle.tl_instr.specs.declared.instr.Instr.TheVariants.{Jump, RepeatBy, First, Child, Move, Release, Get, Put, Kids, Return}
use Rattle.tl_instr.specs.Instructions.{target}
use Rattle.tl_budget.specs.Loops.{Loop, loop_at}
use Rattle.tl_verify.specs.declared.marks.Marks.{Marks}

abbrev pub is_held : Marks → ℕ → Bool
is_held m n = get_or m.held n false

abbrev pub with_held : Marks → ℕ → Bool → Marks
with_held m n b = record m { held = slice_set m.held n b }

abbrev pub all_empty : List Bool → Bool
all_empty [] = true
all_empty (true ∷ bs) = false
all_empty (false ∷ bs) = all_empty bs

-- at the start all registers are empty, and `first` is open: none has locked a node yet
abbrev pub entry : Marks
entry = record { held = replicate NODE_REGISTERS false; is_open = true }

-- the register that must hold a node
abbrev pub source : Instr → Option ℕ
source (Child n parent v otherwise) = Some parent
source (Move n from) = Some from
source (Release n) = Some n
source (Get v n f) = Some n
source (Put n f v) = Some n
source (Kids v n) = Some n
source i = None

-- the register that receives a node and must be empty
abbrev pub destination : Instr → Option ℕ
destination (First n v otherwise) = Some n
destination (Child n parent v otherwise) = Some n
destination (Move n from) = Some n
destination i = None

-- the marks after an instruction that doesn't go to its target
abbrev pub after : Instr → Marks → Marks
after (First n v otherwise) m = record { held = slice_set m.held n true; is_open = false }
after (Child n parent v otherwise) m = with_held m n true
after (Move n from) m = with_held (with_held m from false) n true
after (Release n) m = with_held m n false
after i m = m

-- whether control may go to the next position
abbrev pub goes_on : Instr → Bool
goes_on (Jump to) = false
goes_on Return = false
goes_on i = true

abbrev pub is_first : Instr → Bool
is_first (First n v otherwise) = true
is_first i = false

abbrev pub is_return : Instr → Bool
is_return Return = true
is_return i = false

-- the position of the loop's end; p if there is no loop
abbrev pub close_of : ℕ → Option Loop → ℕ
close_of p None = p
close_of p (Some l) = l.close

abbrev pub end_of : List Instr → ℕ → ℕ
end_of code p = close_of p (loop_at code p)

-- the position to which control may go with the marks from before the instruction: its target, or the position after the
-- end of a loop that may have no turns
abbrev pub aside_by : ℕ → Instr → Option ℕ
aside_by close (RepeatBy turns count) = Some (close + 1)
aside_by close i = target i

abbrev pub aside : List Instr → ℕ → Instr → Option ℕ
aside code p i = aside_by (end_of code p) i

-- the position before the furthest one that control may reach from the instruction without using its target
abbrev pub furthest_by : ℕ → ℕ → Instr → ℕ
furthest_by close p (RepeatBy turns count) = close
furthest_by close p i = p

abbrev pub furthest : List Instr → ℕ → Instr → ℕ
furthest code p i = furthest_by (end_of code p) p i

-- Control may go from the instruction at p with the marks m to the position q with the marks k.
pub data Leads (code : List Instr) (i : Instr) (p : ℕ) (m : Marks) (q : ℕ) (k : Marks) : Type 0 where
  to_next : goes_on i ≡ true → q ≡ p + 1 → k ≡ after i m → Leads code i p m q k
  -- the marks are those from before the instruction
  to_aside : aside code p i ≡ Some q → k ≡ m → Leads code i p m q k
  -- from a loop's end to the first position of its body
  to_body : (o : ℕ) (l : Loop) → loop_at code o ≡ Some l → l.close ≡ p → q ≡ o + 1 → k ≡ m → Leads code i p m q k
