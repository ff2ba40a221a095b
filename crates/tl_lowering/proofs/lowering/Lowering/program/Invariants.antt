use Rattle.std.proofs.Common.{take}
use Rattle.std.specs.List.{All}
use Rattle.tl_syntax.specs.Tokens.{spellings}
use Rattle.tl_lowering.specs.declared.program.Procedure.{Procedure}
use Rattle.tl_lowering.specs.Fit.{IsWord}
use Rattle.tl_lowering.specs.Names.{names_of}
use Rattle.tl_lowering.specs.Scopes.{view_of, IsBare}
use Rattle.tl_lowering.specs.Sound.{IsInOrder}
use Rattle.tl_lowering.proofs.TextLemmas.{AreSoFar}
use Rattle.tl_lowering.proofs.lowering.Lowering.program.Given as goal

abbrev pub invariant-loop-index : goal.invariant-loop-index
invariant-loop-index l =
    record {
      named : AreSoFar (spellings l.names.keys) (names_of l.initial.self.scope) (take l.index l.declarations) l.procedures.items (names_of l.self.scope);
      bare : IsBare (view_of l.self.scope);
      procedures : All (λ (p : Procedure). IsWord p.name.items → IsInOrder p) l.procedures.items;
    }
