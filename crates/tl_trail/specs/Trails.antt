-- The contents of a trail: a tree, procedures, calls with their replies, events, and end records.
use Rattle.std.specs.Prelude.{◌≡◌, ℕ, ◌<◌, ◌≤◌, List, [], length, get_or, Option, None, option_map, All, ℤ}
use Rattle.tl_history.specs.declared.history.TheConstants.{MAX_CALLS}
use Rattle.tl_tree.specs.Records.{Records}
use Rattle.tl_tree.specs.Shape.{IsTree}
use Rattle.tl_instr.specs.declared.instr.Instr.{Instr}
use Rattle.tl_instr.specs.Codes.{IsCode}
use Rattle.tl_verify.specs.Acceptable.{Acceptable}
use Rattle.tl_tree_locking.specs.declared.event.Event.{Event}
use Rattle.tl_tree_locking.specs.Alone.{Outcome}
use Rattle.tl_tree_locking.specs.History.{caller}
use Rattle.tl_tree_locking.specs.World.{World, alone_of}
use Rattle.tl_machine.specs.Outcomes.{meaning}
use Rattle.tl_procedures.specs.Names.{Named, no_procedure}
use Rattle.tl_tree_locking.specs.Nodes.{IsOfNodes}
use Rattle.tl_trail.specs.declared.trail.TrailCall.{TrailCall}

-- a call: the number of its procedure, its arguments, and optionally its reply
pub record CallValue : Type 0 where
  pub procedure : ℕ
  pub args : List ℤ
  pub reply : Option (List ℤ)

-- the shape and the opening records, the procedures and the calls by number, the events with the latest first, and the end records
pub record TrailValue : Type 0 where
  pub parents : List ℕ
  pub opening : Records
  pub procedures : List Named
  pub calls : List CallValue
  pub past : List Event
  pub ends : Records

abbrev pub call_value : TrailCall → CallValue
call_value k = record { procedure = k.procedure; args = k.args.items; reply = option_map (λ r. r.items) k.reply }

abbrev pub no_call : CallValue
no_call = record { procedure = 0; args = []; reply = None }

abbrev pub call_at : TrailValue → ℕ → CallValue
call_at t c = get_or t.calls c no_call

abbrev pub code_of : List Named → CallValue → List Instr
code_of procedures k = (get_or procedures k.procedure no_procedure).code.instrs

-- the call's procedure exists, its code is accepted, and it takes as many arguments as the call has
pub record IsCallOf (procedures : List Named) (k : CallValue) : Type 0 where
  pub known : k.procedure < length procedures
  pub valid : IsCode (get_or procedures k.procedure no_procedure).code
  pub accepted : Acceptable (code_of procedures k)
  pub arity : length k.args ≡ (get_or procedures k.procedure no_procedure).code.arity

-- True of every trail that can be read, whoever wrote it. It has a tree, an opening record and an end record for each
-- node, and at most MAX_CALLS calls of its procedures. Its events refer to existing calls and nodes.
pub record IsTrail (t : TrailValue) : Type 0 where
  pub tree : IsTree t.parents
  pub size : length t.opening ≡ length t.parents
  pub end_size : length t.ends ≡ length t.parents
  pub few : length t.calls ≤ MAX_CALLS
  pub calls : All (IsCallOf t.procedures) t.calls
  pub nodes : All (IsOfNodes (length t.parents)) t.past
  pub callers : All (λ e. caller e < length t.calls) t.past

-- what call c does alone on trees of the shape
abbrev pub meaning_of : TrailValue → ℕ → Records → Outcome
meaning_of t c = meaning (code_of t.procedures (call_at t c)) t.parents (call_at t c).args

-- what call c does alone on the opening tree with the records that it found
abbrev pub found_alone : TrailValue → ℕ → Outcome
found_alone t c = alone_of (meaning_of t c) t.opening t.past c

-- the trail as a world of the protocol, in which each call has done everything that it does alone
abbrev pub world_of : TrailValue → World
world_of t = record {
  parents = t.parents;
  opening = t.opening;
  meanings = meaning_of t;
  past = t.past;
  counts = λ c. length (found_alone t c).actions;
}
