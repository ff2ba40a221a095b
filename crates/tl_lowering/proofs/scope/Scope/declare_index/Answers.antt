use Rattle.std.proofs.Common.{◌∙◌, ap, rules}
use Rattle.std.specs.Prelude.{◌+◌}
use Rattle.tl_lowering.specs.declared.scope.Meaning.TheVariants.{Index}
use Rattle.tl_lowering.specs.Scopes.{view_of}
use Rattle.tl_lowering.proofs.LoweringLemmas.{extends_same}
use Rattle.tl_lowering.proofs.ScopeLemmas.{declares, index_in_use, same_numbers}
use Rattle.tl_lowering.proofs.scope.Scope.declare_index.Goals as goal

pub returns-in_default-clause-names : goal.returns-in_default-clause-names
returns-in_default-clause-names c = λ outer fresh e. extends_same outer (view_of c.args.self.now) _ e (search rules) (search rules) (search rules) (search rules)

pub returns-in_default-clause-named : goal.returns-in_default-clause-named
returns-in_default-clause-named c = rw c.in_default.is c.add_value.ensures.named

pub returns-clause-names : goal.returns-clause-names
returns-clause-names c = λ outer fresh e.
    declares outer (view_of c.args.self.now) _ c.in-Some.name.symbol (Index c.args.register) (rw c.in-Some.is at fresh) e (search rules) (search rules) (search rules) (search rules)

pub returns-clause-named : goal.returns-clause-named
returns-clause-named c = rw c.in-Some.is (search rules)

pub returns-clause-in_use : goal.returns-clause-in_use
returns-clause-in_use c = λ h.
    same_numbers _ _ _ _ _ _ (index_in_use _ _ _ c.in-Some.name.symbol.0 c.args.register c.requires h)
    (c.add_value-2.ensures.values ∙ ap (λ n. n + 1) c.set.ensures.values) (c.add_value-2.ensures.nodes ∙ c.set.ensures.nodes) (c.add_value-2.ensures.meanings ∙ c.set.ensures.meanings)
