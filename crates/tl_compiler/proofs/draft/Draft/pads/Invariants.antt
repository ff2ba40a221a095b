use Rattle.std.proofs.Common.{◌-◌, ℕ, List, false, map}
use Rattle.std.specs.List.{range_with_len}
use Rattle.tl_lowering.specs.Sets.{Nodes}
use Rattle.tl_verify.specs.Bits.{bits_of}
use Rattle.tl_compiler.specs.Contexts.{LeadsTo, ArePads, code_of}
use Rattle.tl_compiler.specs.NodeSets.{nodes_of, AreThose}
use Rattle.tl_compiler.specs.Statements.{pads_of}
use Rattle.tl_compiler.proofs.draft.Draft.pads.Given as goal

abbrev pub invariant-loop-index : goal.invariant-loop-index
invariant-loop-index l = (list : List Nodes) → AreThose l.fails list → (pad : Nodes → ℕ) → LeadsTo pad l.initial.pads
    → ArePads
    (pads_of (map (bits_of 8) (range_with_len (256 - l.index) l.index)) list (nodes_of l.handled) l.handler.0 (record { code = code_of l.initial.self; pad = pad; are_some = false }))
    l.self l.pads l.is_one
