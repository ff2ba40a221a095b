-- The position of a statement, as the compiler represents it and as the definition of its code does.
use Rattle.std.specs.Prelude.{◌≡◌, ℕ, ◌<◌, List, reverse, length, Bool, false, ◌||◌, option_map, get_or}
use Rattle.tl_instr.specs.declared.operand.TheConstants.{NODE_REGISTERS}
use Rattle.tl_instr.specs.declared.instr.Instr.{Instr}
use Rattle.tl_lowering.specs.declared.program.Statement.{Statement}
use Rattle.tl_lowering.specs.Sets.{Nodes}
use Rattle.tl_lowering.specs.Outcomes.{after, fails}
use Rattle.tl_verify.specs.Bits.{bits_of}
use Rattle.tl_compiler.specs.declared.context.Context.{Context}
use Rattle.tl_compiler.specs.declared.context.Exit as Loop
use Rattle.tl_compiler.specs.declared.context.Pads.{Pads}
use Rattle.tl_compiler.specs.declared.draft.Draft.{Draft}
use Rattle.tl_compiler.specs.declared.statements.Ways.{Ways}
use Rattle.tl_compiler.specs.NodeSets.{nodes_of, all_sets}
use Rattle.tl_compiler.specs.Statements as Code
use Rattle.tl_compiler.specs.Statements.{Exit, Site, Way, Second, direct, is_skip, pad_at, pads_of, joining_code, statement_code}

-- `pad` gives the labels of these pads
pub record LeadsTo (pad : Nodes → ℕ) (pads : Pads) : Type 0 where
  pub at_each : (number : ℕ) → number < 256 → pad (bits_of NODE_REGISTERS number) ≡ (get_or pads.labels number (record { 0 = 0 })).0

abbrev pub exit_of : Loop.Exit → Exit
exit_of exit = record { label = exit.label.0; held = nodes_of exit.held }

-- the site of the definition is the compiler's context
pub record Describes (x : Site) (context : Context) : Type 0 where
  pub values : x.values ≡ context.values
  pub nodes : x.nodes ≡ context.nodes
  pub pads : LeadsTo x.pad context.pads.now
  pub exit : x.exit ≡ option_map exit_of context.exit

-- the code so far, from its start
abbrev pub code_of : Draft → List Instr
code_of draft = reverse draft.instrs.items

-- the code of a statement in this context was put in front of everything written before
pub record Writes (code : Site → List Instr → List Instr) (context : Context) (old new : Draft) : Type 0 where
  pub written : (x : Site) → Describes x context → code_of new ≡ code x (code_of old)

-- a statement as one of two ways
abbrev pub way_of : Statement → Nodes → Site → Way
way_of s held x = record { to = direct s held x; skips = is_skip s; held = after s held; code = statement_code s held x }

-- the two ways, where the second one was put in front of everything written before
pub record AreWays (ways : Ways) (second : Second) (kept : Nodes) (old new : Draft) : Type 0 where
  pub code : code_of new ≡ second.code
  pub label : ways.second.0 ≡ second.label
  pub jumps : ways.jumps ≡ second.jumps
  pub done : ways.done.0 ≡ length (code_of old)
  pub keeps : nodes_of ways.kept ≡ kept

-- the pads were put in front of everything written before, and failures lead to them
pub record ArePads (made : Code.Pads) (new : Draft) (pads : Pads) (are_some : Bool) : Type 0 where
  pub code : code_of new ≡ made.code
  pub leads : LeadsTo made.pad pads
  pub some : are_some ≡ made.are_some

-- the code of a statement whose failures are handled by the second way
abbrev pub guarded_code : Statement → Nodes → Nodes → Ways → Site → List Instr → List Instr
guarded_code body held handled ways x k =
    let pads = pads_of all_sets (fails body held) handled ways.second.0 (record { code = k; pad = pad_at handled ways.second.0 x.pad; are_some = false }) in
    statement_code body held (record x { pad = pads.pad })
    (joining_code (after body held) (nodes_of ways.kept) (ways.jumps || pads.are_some) ways.done.0 pads.code)
