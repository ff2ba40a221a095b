use Rattle.std.specs.Cmp.{signed_Decides}
use Rattle.std.proofs.lemmas.Slice.Eq.{slice_eq-Decides}
use Rattle.tl_audit.specs.Chains.{zero_record}
use Rattle.tl_audit.proofs.chain.is_zero.Goals as goal

pub returns : goal.returns
returns c = slice_eq-Decides signed_Decides c.args.record.now zero_record c.eq.result c.eq.ensures
