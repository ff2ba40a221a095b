-- A core at a later time.
use Rattle.std.specs.Prelude.{◌≡◌, ℕ, ℤ, List, ◌++◌, map}
use Rattle.tl_instr.specs.Codes.{CodeValue}
use Rattle.tl_tree_locking.specs.declared.event.Event.{Event}
use Rattle.tl_procedures.specs.Names.{BeginsWith}
use Rattle.tl_core.specs.Cores.{CallValue, CoreValue}

-- what a call was admitted with: the number of its procedure, its code and its arguments
pub record Ask : Type 0 where
  pub procedure : ℕ
  pub code : CodeValue
  pub args : List ℤ

abbrev pub ask_of : CallValue → Ask
ask_of c = record { procedure = c.procedure; code = c.code; args = c.args }

-- It is the same core at a later time: with the same opening tree, and possibly with more procedures, calls and events.
pub record Later (v w : CoreValue) : Type 0 where
  pub parents : w.parents ≡ v.parents
  pub opening : w.opening ≡ v.opening
  pub procedures : BeginsWith v.procedures w.procedures
  pub calls : (more : List Ask) × (map ask_of w.calls ≡ map ask_of v.calls ++ more)
  pub past : (events : List Event) × (w.past ≡ events ++ v.past)
