use Rattle.std.proofs.Common.{rules}
use Rattle.tl_lowering.specs.declared.scope.Meaning.TheVariants.{Value}
use Rattle.tl_lowering.specs.Scopes.{view_of}
use Rattle.tl_lowering.proofs.ScopeLemmas.{declares, variable_in_use, same_numbers}
use Rattle.tl_lowering.proofs.scope.Scope.declare_variable.Goals as goal

pub returns-clause-names : goal.returns-clause-names
returns-clause-names c = λ outer fresh e. declares outer (view_of c.args.self.now) _ c.args.name.symbol (Value c.args.register) fresh e (search rules) (search rules) (search rules) (search rules)

pub returns-clause-in_use : goal.returns-clause-in_use
returns-clause-in_use c = λ h.
    same_numbers _ _ _ _ _ _ (variable_in_use _ _ _ c.args.name.symbol.0 c.args.register c.requires h) c.set.ensures.values c.set.ensures.nodes c.set.ensures.meanings
