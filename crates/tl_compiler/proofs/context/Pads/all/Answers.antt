use Rattle.std.proofs.Common.{refl}
use Rattle.tl_compiler.proofs.PadLemmas.{all_set}
use Rattle.tl_compiler.proofs.context.Pads.all.Goals as goal

pub returns : goal.returns
returns c = all_set _ c.args.label refl
