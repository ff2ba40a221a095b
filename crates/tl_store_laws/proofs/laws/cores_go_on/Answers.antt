use Rattle.tl_store_laws.proofs.Going.{later_same, later_again, later_procedures, later_admits, later_steps, later_proceeds, later_submits}
use Rattle.tl_store_laws.proofs.laws.cores_go_on.Goals as goal

pub returns-clause-same : goal.returns-clause-same
returns-clause-same c = λ v. later_same v

pub returns-clause-again : goal.returns-clause-again
returns-clause-again c = λ u v w a b. later_again u v w a b

pub returns-clause-procedures : goal.returns-clause-procedures
returns-clause-procedures c = λ v more. later_procedures v more

pub returns-clause-admits : goal.returns-clause-admits
returns-clause-admits c = λ before after name args n is. later_admits before after name args n is

pub returns-clause-steps : goal.returns-clause-steps
returns-clause-steps c = λ before after call answer is. later_steps before after call answer is

pub returns-clause-proceeds : goal.returns-clause-proceeds
returns-clause-proceeds c = λ before after call s is. later_proceeds before after call s is

pub returns-clause-submits : goal.returns-clause-submits
returns-clause-submits c = λ before after call lent after_it o is. later_submits before after call lent after_it o is
