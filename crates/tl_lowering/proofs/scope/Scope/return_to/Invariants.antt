use Rattle.std.proofs.Common.{◌≡◌, take, drop, vec_len}
use Rattle.tl_lowering.specs.Scopes.{forget}
use Rattle.tl_lowering.proofs.scope.Scope.return_to.Given as goal

abbrev pub invariant-loop-self : goal.invariant-loop-self
invariant-loop-self l =
    let k = l.mark.local in let old = l.initial.self in
    record {
      meanings : forget (drop k l.self.local.items) l.self.meanings.items ≡ forget (drop k old.local.items) old.meanings.items;
      fields : l.self.fields.items ≡ old.fields.items;
      procedures : l.self.procedures.items ≡ old.procedures.items;
      local : take k l.self.local.items ≡ take k old.local.items;
      loops : l.self.loops ≡ old.loops;
    }

abbrev pub decreases-loop-self : goal.decreases-loop-self
decreases-loop-self l = vec_len l.self.local
