use Rattle.std.specs.Cmp.{signed_Decides}
use Rattle.std.proofs.lemmas.Slice.Eq.{slice_eq-Decides}
use Rattle.tl_export.proofs.differing.is_of.Goals as goal

pub returns : goal.returns
returns c = slice_eq-Decides signed_Decides c.args.record.now c.args.row.now.fields c.eq.result c.eq.ensures
