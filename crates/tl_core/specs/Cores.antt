-- The value of a core, as its callers see it.
use Rattle.std.specs.Prelude.{◌≡◌, ℕ, zero, suc, ◌+◌, ◌-◌, ◌*◌, ◌<◌, true, List, [], length, get_or, if◌then◌else◌, min, drop, Option, None, ℤ}
use Rattle.tl_tree.specs.Records.{Records}
use Rattle.tl_instr.specs.declared.instr.Instr.{Instr}
use Rattle.tl_instr.specs.declared.version.Version.TheVariants.{One}
use Rattle.tl_instr.specs.Codes.{CodeValue}
use Rattle.tl_budget.specs.Loops.{budget, lock_bound}
use Rattle.tl_tree_locking.specs.declared.action.Action.{Action}
use Rattle.tl_tree_locking.specs.declared.event.Event.{Event}
use Rattle.tl_tree_locking.specs.History.{part_of, is_done, IsOpen, AllDone, records_now}
use Rattle.tl_tree_locking.specs.World.{World, alone_of, done_of}
use Rattle.tl_machine.specs.Outcomes.{meaning}
use Rattle.tl_tree_locking.specs.Actions.{with_found}
use Rattle.tl_machine.specs.Runs.{actions}
use Rattle.tl_machine.specs.Turns.{TurnValue, left_of}
use Rattle.tl_procedures.specs.Names.{Named}
use Rattle.tl_tree.specs.Trees.{TreeValue}
use Rattle.tl_core.specs.declared.fault.CoreFault.{CoreFault}
use Rattle.tl_core.specs.declared.fault.CoreFault.TheVariants.{NotAtRest, Memory}

-- a call: the number of its procedure, its code, its arguments, and the number of instructions it has executed
pub record CallValue : Type 0 where
  pub procedure : ℕ
  pub code : CodeValue
  pub args : List ℤ
  pub count : ℕ

-- the shape, the opening records, the procedures and the calls by number, the events with the latest first, and the limit for the number of events
pub record CoreValue : Type 0 where
  pub parents : List ℕ
  pub opening : Records
  pub procedures : List Named
  pub calls : List CallValue
  pub past : List Event
  pub limit : ℕ

-- the same with the turn that the core keeps for each call; a call that is done has none
pub record CoreState : Type 0 where
  pub seen : CoreValue
  pub turns : List (Option TurnValue)

abbrev pub kept_turn : CoreState → ℕ → Option TurnValue
kept_turn s c = get_or s.turns c None

-- a core for this tree with these procedures and without calls
abbrev pub opened : TreeValue → List Named → ℕ → CoreState
opened tree procedures limit = record {
  seen = record { parents = tree.parents; opening = tree.records; procedures = procedures; calls = []; past = []; limit = limit };
  turns = [];
}

-- the core that follows one at rest: it opens with the current records and has no calls
abbrev pub opened_after : CoreValue → CoreState
opened_after v =
    opened (record { parents = v.parents; records = records_now v.past v.opening }) v.procedures v.limit

abbrev pub no_call : CallValue
no_call = record { procedure = 0; code = record { version = One; arity = 0; instrs = [] }; args = []; count = 0 }

abbrev pub call_of : CoreValue → ℕ → CallValue
call_of v c = get_or v.calls c no_call

abbrev pub code_of : CoreValue → ℕ → List Instr
code_of v c = (call_of v c).code.instrs

-- the core as a world of the protocol: a call's meaning is what its code does alone with its arguments
abbrev pub world_of : CoreValue → World
world_of v = record {
  parents = v.parents;
  opening = v.opening;
  meanings = λ c. meaning (code_of v c) v.parents (call_of v c).args;
  past = v.past;
  counts = λ c. (call_of v c).count;
}

-- The turn is that of the open call c. On the opening tree with the records that the call found, the rest of the turn's
-- run is the rest of what the call does alone.
pub record IsTurnOf (v : CoreValue) (c : ℕ) (t : TurnValue) : Type 0 where
  pub is_open : IsOpen c v.past
  pub code : t.code ≡ (call_of v c).code
  pub parents : t.parents ≡ v.parents
  pub count : t.call.steps ≡ (call_of v c).count
  pub rest : actions (left_of t (with_found (part_of c v.past) v.opening)) ≡ drop (call_of v c).count (alone_of ((world_of v).meanings c) v.opening v.past c).actions

-- what call c has done, the earliest action first
abbrev pub done_by : CoreValue → ℕ → List Action
done_by v c = done_of (world_of v) c

-- the sum of f over the numbers below n
abbrev pub total : (ℕ → ℕ) → ℕ → ℕ
total f zero = 0
total f (suc n) = total f n + f n

-- c was admitted and isn't done, and all calls before it are done
pub record IsLeastUnfinished (past : List Event) (c : ℕ) : Type 0 where
  pub is_open : IsOpen c past
  pub least : (d : ℕ) → d < c → is_done d past ≡ true

-- the fault of sealing: c is the lowest call that isn't done; if memory was refused, all calls are done
abbrev pub IsSealFault : CoreValue → CoreFault → Type 0
IsSealFault v (NotAtRest c) = IsLeastUnfinished v.past c
IsSealFault v Memory = AllDone v.past
IsSealFault v _ = ⊥

-- the number of open calls
abbrev pub open_calls : CoreValue → ℕ
open_calls v = total (λ c. if is_done c v.past then 0 else 1) (length v.calls)

-- an upper bound for the events of a call: it locks and frees each node at most once, and is admitted and done once
abbrev pub places : List Instr → ℕ → ℕ
places code nodes = 2 * min (lock_bound code) nodes + 2

-- the number of places that the history still reserves for call c: 0 if it is done, otherwise the bound less the events
-- that it has, including its admission
abbrev pub owed_to : CoreValue → ℕ → ℕ
owed_to v c = if is_done c v.past then 0 else places (code_of v c) (length v.parents) - (length (part_of c v.past) + 1)

abbrev pub owed : CoreValue → ℕ
owed v = total (owed_to v) (length v.calls)

-- how many more places the history has
abbrev pub room : CoreValue → ℕ
room v = v.limit - (length v.past + owed v)

-- an upper bound for the instructions of all calls
abbrev pub all_budgets : CoreValue → ℕ
all_budgets v = total (λ c. budget (code_of v c)) (length v.calls)
