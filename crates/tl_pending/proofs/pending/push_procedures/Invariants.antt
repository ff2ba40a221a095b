use Rattle.std.proofs.Common.{map, take}
use Rattle.tl_rows.specs.Rows.{procedure_form}
use Rattle.tl_pending.specs.Pendings.{new_form, Appends}
use Rattle.tl_pending.proofs.pending.push_procedures.Given as goal

-- the rows of the first procedures were appended
abbrev pub invariant-loop-new : goal.invariant-loop-new
invariant-loop-new l = Appends procedure_form (map new_form (take l.new-index l.procedures)) l.initial.rows.items l.rows.items
