-- What a part is given where it is used, with the meanings of names outside of the part and in it.
use Rattle.std.specs.Prelude.{◌≡◌, ℕ}
use Rattle.tl_syntax.specs.declared.parsed.Name.{Name}
use Rattle.tl_syntax.specs.declared.parsed.Expression.{Expression as TextExpression}
use Rattle.tl_syntax.specs.declared.parsed.Form.TheVariants as F
use Rattle.tl_lowering.specs.declared.program.Expression.{Expression}
use Rattle.tl_lowering.specs.declared.scope.Meaning.TheVariants as M
use Rattle.tl_lowering.specs.Names.{Names, stands_for, IsNew, HasValue, IsUnnamed, with_alias, with_variable, with_value}
use Rattle.tl_lowering.specs.Naming.{IsNumber}
use Rattle.tl_lowering.specs.Registers.{HasTemporaries}

-- the part's name denotes the node of a name outside, which has no other name in the part
pub record IsNodeGiven (outer names : Names) (name : Name) (argument : TextExpression) (later : Names) : Type 0 where
  pub called : Name
  pub register : ℕ
  pub form_is : argument.form ≡ F.Named called
  pub node_is : stands_for outer called ≡ M.Node register
  pub fresh : IsNew names name
  pub unnamed : IsUnnamed names register
  pub later_is : later ≡ with_alias names name register

-- the part's name denotes the value of a name outside that may be assigned
pub record IsVariableGiven (outer names : Names) (name : Name) (argument : TextExpression) (later : Names) : Type 0 where
  pub called : Name
  pub register : ℕ
  pub form_is : argument.form ≡ F.Named called
  pub value_is : stands_for outer called ≡ M.Value register
  pub fresh : IsNew names name
  pub later_is : later ≡ with_variable names name register

-- the part's name denotes a number of outside, in the next value register
pub record IsValueGiven (outer names : Names) (name : Name) (argument : TextExpression) (e : Expression) (later : Names) : Type 0 where
  pub fresh : IsNew names name
  pub room : HasValue names
  pub number_is : IsNumber outer argument.form e
  pub fits : HasTemporaries e names.values
  pub later_is : later ≡ with_value names name
