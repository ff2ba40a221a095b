use Rattle.tl_lowering.specs.Entering.{before_of}
use Rattle.std.proofs.Common.{◌≡◌, ◌++◌, ◌∷◌, [], arith, rules, subst, sym}
use Rattle.std.proofs.lemmas.List.{take_all}
use Rattle.tl_lowering.specs.declared.program.Statement.TheVariants as S
use Rattle.tl_lowering.specs.Names.{names_of}
use Rattle.tl_lowering.specs.Naming.{AreEmits}
use Rattle.tl_lowering.specs.Scopes.{view_of}
use Rattle.tl_lowering.proofs.EnterLemmas.{HasEmitted, none_emitted_yet, one_emitted, all_emitted}
use Rattle.tl_lowering.proofs.NamingLemmas.{AreEmitted, more_emitted}
use Rattle.tl_lowering.proofs.NumberLemmas.{none_emits, none_emitted, more_emits}
use Rattle.tl_lowering.proofs.lowering.Lowering.emit.Goals as goal

pub loop-value-init : goal.loop-value-init
loop-value-init c = record {
  named = none_emits c.new-emits.ensures.items;
  entering = none_emitted_yet c.new-emits.ensures.items c.on-flow.ensures.entered;
  order = none_emitted (view_of c.args.self.now.scope) c.args.held c.new-emits.result.items c.on-flow.result c.new-emits.ensures.items c.on-flow.ensures.paths;
}

pub loop-value-preserved : goal.loop-value-preserved
loop-value-preserved c =
    let scope = view_of c.args.self.now.scope in
    let more : c.push.new.self.items ≡ c.loop-value.emits.items ++ S.Emit c.in_ok-number.number ∷ [] = search rules in
    record {
      named = more_emits c.args.values.now c.loop-value.value-index c.value-item.result (omega arith) c.value-item.is more c.loop-value.invariant.named c.in_ok-number.ensures.named c.in_ok-number.ensures.room;
      entering =
          subst (λ xs. HasEmitted (before_of c.args.held) xs c.failing_if-flow.result) (sym more)
          (one_emitted c.in_ok-number.number c.may_fail.result c.loop-value.invariant.entering c.may_fail.ensures c.failing_if-flow.ensures.entered);
      order =
          subst (λ xs. AreEmitted scope c.args.held xs c.failing_if-flow.result) (sym more)
          (more_emitted scope c.args.held c.loop-value.emits.items c.loop-value.flow c.failing_if-flow.result c.in_ok-number.number c.may_fail.result
          c.loop-value.invariant.order c.in_ok-number.ensures.readable c.may_fail.ensures c.failing_if-flow.ensures.paths);
    }

pub returns-clause-named : goal.returns-clause-named
returns-clause-named c = record {
  parts = c.loop-value.emits.items;
  each = subst (λ xs. AreEmits (names_of c.args.self.now.scope) xs c.loop-value.emits.items) (take_all c.loop-value.value-index c.args.values.now (omega arith)) c.loop-value.invariant.named;
  joined = c.in_ok-sequence.ensures.named;
}

pub returns-clause-entering : goal.returns-clause-entering
returns-clause-entering c = all_emitted c.in_ok-sequence.ensures.named c.loop-value.invariant.entering
