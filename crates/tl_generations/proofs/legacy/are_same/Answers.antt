use Rattle.std.specs.Cmp.Rules.{signed_items}
use Rattle.std.proofs.lemmas.Slice.Eq.{slice_eq-Decides}
use Rattle.tl_generations.proofs.legacy.are_same.Goals as goal

pub returns : goal.returns
returns c = slice_eq-Decides signed_items c.args.records.now c.args.others.now c.eq.result c.eq.ensures
