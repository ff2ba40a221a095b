use Rattle.std.proofs.Common.{◌≡◌, map, take}
use Rattle.tl_rows.specs.Rows.{procedure_form, named_form}
use Rattle.tl_volumes.proofs.carrying.procedure_rows.Given as goal

-- the rows so far are those of the first procedures
abbrev pub invariant-loop-number : goal.invariant-loop-number
invariant-loop-number l = map procedure_form l.rows.items ≡ map named_form (take l.number l.procedures)
