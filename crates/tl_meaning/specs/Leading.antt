-- Where control goes in a code, and the events on the way.
use Rattle.std.specs.Prelude.{◌≡◌, ◌≢◌, ℕ, ◌-◌, ◌<◌, ◌≤◌, List, [], ◌∷◌, length, Bool, true, false, Option, Some, None, slice_get, ℤ}
use Rattle.tl_instr.specs.declared.operand.TheConstants.{VALUE_REGISTERS}
use Rattle.tl_instr.specs.declared.instr.Instr.{Instr}
use Rattle.tl_instr.specs.Instructions.{InRange}
use Rattle.tl_tree_locking.specs.declared.action.Action.{Action}
use Rattle.tl_verify.specs.Acceptable.{Acceptable}
use Rattle.tl_machine.specs.Runs.{State, Run, Then}
use Rattle.tl_machine.specs.Alone.{value}
use Rattle.tl_machine.specs.Left.{Frame, left}
use Rattle.tl_compiler.specs.Aiming.{at_positions}
use Rattle.tl_meaning.specs.Told.{told}

-- a run preceded by these actions
abbrev pub with_actions : List Action → Run → Run
with_actions [] run = run
with_actions (a ∷ acts) run = Then a (with_actions acts run)

-- the first run consists of actions with these events, followed by the second run
pub record Leads (from : Run) (events : List Action) (to : Run) : Type 0 where
  pub acts : List Action
  pub tells : told acts ≡ events
  pub runs : from ≡ with_actions acts to

-- the code, with positions in place of labels, is accepted and has its operands in range
pub record Runs (code : List Instr) : Type 0 where
  pub short : length code ≤ 65535
  pub accepted : Acceptable (at_positions code)
  pub ranges : (p : ℕ) (i : Instr) → slice_get (at_positions code) p ≡ Some i → InRange i

-- the rest of the run from a label, which counts from the end of the code
abbrev pub from_label : List Instr → List ℕ → List Frame → ℕ → State → Run
from_label code parents frames label s = left (at_positions code) parents frames (length code - label) s

-- the label is not past the end of the loop that control is in
abbrev pub IsInside : List Instr → List Frame → ℕ → Type 0
IsInside code [] label = Unit {0}
IsInside code (frame ∷ outer) label = length code - label ≤ frame.close

-- the label to which control goes, by the condition's value and `sense`
abbrev pub led_to : Bool → Bool → ℕ → ℕ → ℕ
led_to true true label on = label
led_to true false label on = on
led_to false true label on = on
led_to false false label on = label

-- both states have the same first t values, the same nodes and the same records
pub record Kept (t : ℕ) (s u : State) : Type 0 where
  pub values : (v : ℕ) → v < t → value u v ≡ value s v
  pub nodes : u.nodes ≡ s.nodes
  pub records : u.records ≡ s.records
  pub size : length u.values ≡ VALUE_REGISTERS

-- register x has the number n; the other registers below t, the nodes and the records are the same in both states
pub record Given (x : ℕ) (n : ℤ) (t : ℕ) (s u : State) : Type 0 where
  pub here : value u x ≡ n
  pub values : (v : ℕ) → v < t → v ≢ x → value u v ≡ value s v
  pub nodes : u.nodes ≡ s.nodes
  pub records : u.records ≡ s.records
  pub size : length u.values ≡ VALUE_REGISTERS

-- Where the code of a number before a label leads: to that label with the number in its register, or to the label of its
-- failure. There are no events.
abbrev pub NumberLeads : List Instr → List ℕ → List Frame → ℕ → ℕ → ℕ → ℕ → Run → State → Option ℤ → Type 0
NumberLeads code parents frames x t failure on from s None =
    (u : State) × Leads from [] (from_label code parents frames failure u) × Kept t s u
NumberLeads code parents frames x t failure on from s (Some n) =
    (u : State) × Leads from [] (from_label code parents frames on u) × Given x n t s u

-- Where the code of a condition leads: to the label if its value is `sense`, otherwise on, or to the label of its failure.
abbrev pub ConditionLeads : List Instr → List ℕ → List Frame → Bool → ℕ → ℕ → ℕ → ℕ → Run → State → Option Bool → Type 0
ConditionLeads code parents frames sense label t failure on from s None =
    (u : State) × Leads from [] (from_label code parents frames failure u) × Kept t s u
ConditionLeads code parents frames sense label t failure on from s (Some b) =
    (u : State) × Leads from [] (from_label code parents frames (led_to b sense label on) u) × Kept t s u
