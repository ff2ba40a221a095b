use Rattle.std.proofs.Common.{◌≡◌, ◌≤◌, take}
use Rattle.tl_instr.specs.declared.operand.TheConstants.{MAX_ARGS}
use Rattle.tl_lowering.specs.Names.{names_of, with_values, AreNew}
use Rattle.tl_lowering.specs.Scopes.{view_of, IsInUse, Extends}
use Rattle.tl_lowering.proofs.lowering.Lowering.declare_arguments.Given as goal

abbrev pub invariant-loop-name : goal.invariant-loop-name
invariant-loop-name l =
    record {
      named : names_of l.self.scope ≡ with_values (names_of l.initial.self.scope) (take l.name-index l.names);
      fresh : AreNew (names_of l.initial.self.scope) (take l.name-index l.names);
      names : IsInUse (view_of l.self.scope);
      values : l.self.scope.values ≤ MAX_ARGS;
      nodes : l.self.scope.nodes ≡ 0;
      loops : l.self.scope.loops ≡ 0;
      extends : Extends (view_of l.initial.self.scope) (view_of l.self.scope);
    }
