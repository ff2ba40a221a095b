use Rattle.std.specs.Cmp.{signed_Decides}
use Rattle.std.proofs.lemmas.Slice.Eq.{slice_eq-Decides}
use Rattle.tl_rows.proofs.changes.are_same.Goals as goal

pub returns : goal.returns
returns c = slice_eq-Decides signed_Decides c.args.a.now c.args.b.now c.eq.result c.eq.ensures
