-- Where the code of a statement leads, depending on how the statement ends.
use Rattle.std.specs.Prelude.{◌≡◌, ℕ, ◌≤◌, List, ◌++◌, length, Option, Some}
use Rattle.tl_instr.specs.declared.operand.TheConstants.{VALUE_REGISTERS, NODE_REGISTERS}
use Rattle.tl_instr.specs.declared.instr.Instr.{Instr}
use Rattle.tl_tree_locking.specs.declared.action.Action.{Action}
use Rattle.tl_machine.specs.Runs.{State, Run, Ended}
use Rattle.tl_machine.specs.Left.{Frame}
use Rattle.tl_lowering.specs.Sets.{Nodes, none_held, both}
use Rattle.tl_compiler.specs.Among.{IsIn}
use Rattle.tl_compiler.specs.Statements.{Site, Exit}
use Rattle.tl_meaning.specs.Meaning.{Ending, On, Breaks, Fails, Returns, Done, leave, held_at}
use Rattle.tl_meaning.specs.Leading.{Leads, Kept, from_label, IsInside}

-- The text's state s and the machine's state u have the same first d values, the same nodes and the same records; the given registers hold nodes.
pub record Mirrors (d : ℕ) (registers : Nodes) (s u : State) : Type 0 where
  pub kept : Kept d s u
  pub values : length s.values ≡ VALUE_REGISTERS
  pub nodes : length s.nodes ≡ NODE_REGISTERS
  pub held : held_at s ≡ registers

-- the labels of a site are at the end of a statement or after it; `on` is the number of instructions left at the statement's end
pub record IsSite (code : List Instr) (frames : List Frame) (x : Site) (on : ℕ) : Type 0 where
  pub inside : IsInside code frames on
  pub pads : (held : Nodes) → x.pad held ≤ on
  pub exits : (exit : Exit) → x.exit ≡ Some exit → exit.label ≤ on
  pub sizes : (exit : Exit) → x.exit ≡ Some exit → length exit.held ≡ NODE_REGISTERS

-- Where a run leads when a statement ends with this outcome, state and events. What is held there is among the sets that
-- were computed for the statement.
abbrev pub LeadsBy : Option Nodes → List Nodes → List Nodes → List Instr → List ℕ → List Frame → Site → ℕ → Run → Ending → State → List Action → Type 0
-- to the code after the statement
LeadsBy after fails breaks code parents frames x on from On s events =
    (u : State) × (held : Nodes) × (after ≡ Some held) × Leads from events (from_label code parents frames on u) × Mirrors x.values held s u
-- to the pad for the nodes held
LeadsBy after fails breaks code parents frames x on from Fails s events =
    (u : State) × (held : Nodes) × IsIn held fails × Leads from events (from_label code parents frames (x.pad held) u) × Mirrors x.values held s u
-- to the exit of the loop, after freeing what isn't held there
LeadsBy after fails breaks code parents frames x on from Breaks s events =
    (u : State) × (held : Nodes) × IsIn held breaks × (exit : Exit) × (x.exit ≡ Some exit)
    × Leads from (events ++ (leave exit.held s).events) (from_label code parents frames exit.label u)
    × Mirrors x.values (both held exit.held) (leave exit.held s).state u
-- to the end of the call, after freeing everything
LeadsBy after fails breaks code parents frames x on from Returns s events =
    (u : State) × Leads from (events ++ (leave none_held s).events) (Ended u) × (u.records ≡ (leave none_held s).state.records)

abbrev pub StatementLeads : Option Nodes → List Nodes → List Nodes → List Instr → List ℕ → List Frame → Site → ℕ → Run → Done → Type 0
StatementLeads after fails breaks code parents frames x on from d =
    LeadsBy after fails breaks code parents frames x on from d.outcome d.state d.events
