use Rattle.tl_lowering.specs.Entering.{before_of}
use Rattle.std.proofs.Common.{take}
use Rattle.tl_lowering.specs.Names.{names_of}
use Rattle.tl_lowering.specs.Naming.{AreEmits}
use Rattle.tl_lowering.specs.Scopes.{view_of}
use Rattle.tl_lowering.proofs.EnterLemmas.{HasEmitted}
use Rattle.tl_lowering.proofs.NamingLemmas.{AreEmitted}
use Rattle.tl_lowering.proofs.lowering.Lowering.emit.Given as goal

abbrev pub invariant-loop-value : goal.invariant-loop-value
invariant-loop-value l = record {
  named : AreEmits (names_of l.self.scope) (take l.value-index l.values) l.emits.items;
  entering : HasEmitted (before_of l.held) l.emits.items l.flow;
  order : AreEmitted (view_of l.self.scope) l.held l.emits.items l.flow;
}
