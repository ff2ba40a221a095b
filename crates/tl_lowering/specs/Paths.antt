-- The nodes held on a statement's paths, as sets.
use Rattle.std.specs.Prelude.{ℕ, Bool, true, false, Option, Some, None, option_map, map, nat_eq}
use Rattle.std.specs.List.{range_with_len}
use Rattle.std.specs.Int.{bit_at}
use Rattle.tl_instr.specs.declared.operand.TheConstants.{NODE_REGISTERS}
use Rattle.tl_lowering.specs.declared.paths.Held.{Held}
use Rattle.tl_lowering.specs.declared.paths.Flow.{Flow}
use Rattle.tl_lowering.specs.declared.program.Statement.{Statement}
use Rattle.tl_lowering.specs.Sets.{Nodes, both, both_of, all_of}
use Rattle.tl_lowering.specs.Outcomes.{after, fails, breaks}

-- the set of registers whose bits are set in a byte
unfoldable pub bits : ℕ → Nodes
bits byte = map (λ n. nat_eq (bit_at byte n) 1) (range_with_len 0 NODE_REGISTERS)

-- the registers that hold a node
abbrev pub nodes_of : Held → Nodes
nodes_of held = bits held.nodes

-- the registers of nodes whose children were passed: a child was locked, or the children were gone through
abbrev pub passed_of : Held → Nodes
passed_of held = bits held.visited

-- the nodes held where paths lead, if there are any
abbrev pub known : Option Held → Option Nodes
known held = option_map nodes_of held

-- the nodes held after a statement, where its failure is handled, and after the loop that it leaves by `break`
pub record Paths : Type 0 where
  pub after : Option Nodes
  pub fails : Option Nodes
  pub breaks : Option Nodes

abbrev pub paths_of : Flow → Paths
paths_of flow = record { after = known flow.after; fails = known flow.fails; breaks = known flow.breaks }

-- the paths of a statement that begins with these nodes held
abbrev pub outcomes : Statement → Nodes → Paths
outcomes statement held =
    record { after = after statement held; fails = all_of (fails statement held); breaks = all_of (breaks statement held) }

-- control goes on and nothing else happens
abbrev pub on : Nodes → Paths
on held = record { after = Some held; fails = None; breaks = None }

abbrev pub nowhere : Paths
nowhere = record { after = None; fails = None; breaks = None }

abbrev pub failing : Paths → Nodes → Paths
failing p held = record { after = p.after; fails = both_of p.fails (Some held); breaks = p.breaks }

abbrev pub failing_if : Bool → Paths → Nodes → Paths
failing_if true p held = failing p held
failing_if false p held = p

-- the paths of one statement or the other
abbrev pub either : Paths → Paths → Paths
either p q = record { after = both_of p.after q.after; fails = both_of p.fails q.fails; breaks = both_of p.breaks q.breaks }

-- the paths of a statement and of the handler of its failure
abbrev pub with_handler : Paths → Paths → Paths
with_handler p q = record { after = both_of p.after q.after; fails = q.fails; breaks = both_of p.breaks q.breaks }

-- only the nodes that `held` contains too
abbrev pub keeping : Nodes → Option Nodes → Option Nodes
keeping held after = option_map (λ h. both h held) after
