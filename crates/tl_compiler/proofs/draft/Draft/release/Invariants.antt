use Rattle.std.proofs.Common.{◌≡◌, reverse}
use Rattle.tl_compiler.specs.NodeSets.{nodes_of}
use Rattle.tl_compiler.specs.Statements.{release_below}
use Rattle.tl_compiler.proofs.draft.Draft.release.Given as goal

abbrev pub invariant-loop-number : goal.invariant-loop-number
invariant-loop-number l = reverse l.self.instrs.items ≡ release_below l.number (nodes_of l.nodes) (reverse l.initial.self.instrs.items)
