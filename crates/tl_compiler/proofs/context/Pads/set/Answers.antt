use Rattle.std.proofs.Common.{refl, rules}
use Rattle.tl_compiler.specs.NodeSets.{nodes_of}
use Rattle.tl_compiler.proofs.PadLemmas.{one_set}
use Rattle.tl_compiler.proofs.context.Pads.set.Goals as goal

pub returns : goal.returns
unfolding nodes_of
returns c = λ pad leads.
    rw (← c.index.ensures.same)
    (one_set c.args.self.now _ c.index.result c.args.label pad c.index.ensures.in_range (search rules) refl leads)
