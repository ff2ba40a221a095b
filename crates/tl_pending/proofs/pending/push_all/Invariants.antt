use Rattle.std.proofs.Common.{map, take}
use Rattle.tl_rows.specs.Rows.{procedure_form, named_form}
use Rattle.tl_pending.specs.Pendings.{Appends}
use Rattle.tl_pending.proofs.pending.push_all.Given as goal

-- the rows of the first procedures were appended
abbrev pub invariant-loop-number : goal.invariant-loop-number
invariant-loop-number l = Appends procedure_form (map named_form (take l.number l.others)) l.initial.rows.items l.rows.items
