-- Worked examples of the registers' rules and of the order of findings, by computation.
use Rattle.std.proofs.Common.{◌≡◌, [], ◌∷◌, true, false, Some, None, map, refl}
use Rattle.tl_instr.specs.declared.instr.Instr.TheVariants.{Jump, First, Child, Move, Release, Get, Return}
use Rattle.tl_budget.specs.Findings as loops
use Rattle.tl_verify.specs.declared.arrivals.Arrivals.{Arrivals}
use Rattle.tl_verify.specs.declared.marks.Marks.{Marks}
use Rattle.tl_verify.specs.Bits.{bits_of, number_of}
use Rattle.tl_verify.specs.Faults.{numbers_of}
use Rattle.tl_verify.specs.Findings.{OfLoops, TargetBack, TargetPastEnd, TargetInLoop, Joined, Spent, Missing, Taken, LeftHeld, Changed, NextPastEnd, Steps, Locks, Emits, pass, rank, fault_of}
use Rattle.tl_verify.specs.Marks.{entry, after, source, destination, goes_on}
use Rattle.tl_verify.specs.Pass.{objection}

-- ---- registers: those that hold a node, and whether first is open

-- after a `first` into n0, a child of n0 into n1, and a release of n0
abbrev child_held : Marks
child_held = after (Release 0) (after (Child 1 0 1 6) (after (First 0 0 9) entry))

child_alone : child_held ≡ record { held = false ∷ true ∷ false ∷ false ∷ false ∷ false ∷ false ∷ false ∷ []; is_open = false }
child_alone = refl

-- a move from n1 to n0 leaves n1 empty
moved : (after (Move 0 1) child_held).held ≡ true ∷ false ∷ false ∷ false ∷ false ∷ false ∷ false ∷ false ∷ []
moved = refl

-- a move from a register to itself keeps its node
kept : (after (Move 1 1) child_held).held ≡ child_held.held
kept = refl

child_source : source (Child 1 0 1 6) ≡ Some 0
child_source = refl

child_destination : destination (Child 1 0 1 6) ≡ Some 1
child_destination = refl

first_source : source (First 0 0 9) ≡ None
first_source = refl

jump_goes_on : goes_on (Jump 4) ≡ false
jump_goes_on = refl

return_goes_on : goes_on Return ≡ false
return_goes_on = refl

first_goes_on : goes_on (First 0 0 9) ≡ true
first_goes_on = refl

-- the lowest register is the lowest bit
bits : bits_of 8 5 ≡ true ∷ false ∷ true ∷ false ∷ false ∷ false ∷ false ∷ false ∷ []
bits = refl

number : number_of (true ∷ false ∷ true ∷ []) ≡ 5
number = refl

-- ---- what is found first at one position

abbrev came : Marks → Arrivals
came m = record { marks = m; differ = false }

unlocked : objection 9 2 2 (Get 0 0 0) (came entry) false ≡ Some (Missing 2 0)
unfolding objection
unlocked = refl

locked : objection 9 2 2 (Get 0 1 0) (came child_held) false ≡ None
unfolding objection
locked = refl

-- for a second `first` into a held register, the fault is that `first` is spent
twice : objection 9 2 2 (First 1 0 8) (came child_held) false ≡ Some (Spent 2)
unfolding objection
twice = refl

-- for a child of an empty register into a held one, the fault is the empty register
child_of_none : objection 9 2 2 (Child 1 0 1 6) (came child_held) false ≡ Some (Missing 2 0)
unfolding objection
child_of_none = refl

child_over : objection 9 2 2 (Child 1 1 1 6) (came child_held) false ≡ Some (Taken 2 1)
unfolding objection
child_over = refl

left : objection 9 2 2 Return (came child_held) false ≡ Some (LeftHeld 2 1)
unfolding objection
left = refl

last_goes_on : objection 3 2 2 (Release 1) (came child_held) false ≡ Some (NextPastEnd 2)
unfolding objection
last_goes_on = refl

-- the fault that ways differ precedes all others
differing : objection 3 2 2 (Get 0 0 0) (record { marks = entry; differ = true }) true ≡ Some (Joined 2)
unfolding objection
differing = refl

-- ---- the order of findings

passes : map pass (OfLoops (loops.Deep 4) ∷ OfLoops (loops.Unclosed 0) ∷ TargetBack 0 ∷ Joined 0 ∷ Steps ∷ []) ≡ 0 ∷ 1 ∷ 2 ∷ 3 ∷ 4 ∷ []
passes = refl

of_targets : map rank (TargetBack 0 ∷ TargetPastEnd 0 ∷ TargetInLoop 0 ∷ []) ≡ 0 ∷ 1 ∷ 2 ∷ []
of_targets = refl

of_registers : map rank (Joined 0 ∷ Spent 0 ∷ Missing 0 0 ∷ Taken 0 0 ∷ LeftHeld 0 0 ∷ Changed 0 ∷ NextPastEnd 0 ∷ []) ≡ 0 ∷ 1 ∷ 2 ∷ 3 ∷ 4 ∷ 5 ∷ 6 ∷ []
of_registers = refl

of_sums : map rank (Steps ∷ Locks ∷ Emits ∷ []) ≡ 0 ∷ 1 ∷ 2 ∷ []
of_sums = refl

-- ---- their numbers

targets_numbered : map (λ f. numbers_of (fault_of f)) (TargetBack 4 ∷ TargetPastEnd 4 ∷ TargetInLoop 4 ∷ []) ≡ (401 ∷ 4 ∷ []) ∷ (403 ∷ 4 ∷ []) ∷ (402 ∷ 4 ∷ []) ∷ []
targets_numbered = refl

registers_numbered : map (λ f. numbers_of (fault_of f)) (Joined 4 ∷ Spent 4 ∷ Missing 4 7 ∷ Taken 4 7 ∷ LeftHeld 4 7 ∷ Changed 4 ∷ NextPastEnd 4 ∷ [])
    ≡ (408 ∷ 4 ∷ []) ∷ (404 ∷ 4 ∷ []) ∷ (405 ∷ 4 ∷ 7 ∷ []) ∷ (406 ∷ 4 ∷ 7 ∷ []) ∷ (407 ∷ 4 ∷ 7 ∷ []) ∷ (409 ∷ 4 ∷ []) ∷ (403 ∷ 4 ∷ []) ∷ []
registers_numbered = refl

loops_numbered : map (λ f. numbers_of (fault_of f)) (OfLoops (loops.Unclosed 4) ∷ OfLoops (loops.Alone 4) ∷ OfLoops (loops.Deep 4) ∷ OfLoops (loops.Zero 4) ∷ [])
    ≡ (301 ∷ 4 ∷ []) ∷ (302 ∷ 4 ∷ []) ∷ (303 ∷ 4 ∷ []) ∷ (304 ∷ 4 ∷ []) ∷ []
loops_numbered = refl

sums_numbered : map (λ f. numbers_of (fault_of f)) (Steps ∷ Locks ∷ Emits ∷ []) ≡ (305 ∷ []) ∷ (306 ∷ []) ∷ (307 ∷ []) ∷ []
sums_numbered = refl
