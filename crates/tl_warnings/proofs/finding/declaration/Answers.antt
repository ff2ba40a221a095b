use Rattle.std.proofs.lemmas.Result.{on_ok_weaker}
use Rattle.tl_warnings.specs.Finding.{field, constant, procedure, part}
use Rattle.tl_warnings.proofs.finding.declaration.Goals as goal

pub returns-in-Field : goal.returns-in-Field
returns-in-Field c = rw c.in-Field.is field

pub returns-in-Constant : goal.returns-in-Constant
returns-in-Constant c = rw c.in-Constant.is constant

pub returns-in-Procedure : goal.returns-in-Procedure
returns-in-Procedure c = rw c.in-Procedure.is (on_ok_weaker c.procedure.result (λ w. procedure w) c.procedure.ensures)

pub returns-in-Part : goal.returns-in-Part
returns-in-Part c = rw c.in-Part.is (on_ok_weaker c.part.result (λ w. part w) c.part.ensures)
