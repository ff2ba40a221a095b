use Rattle.std.proofs.Common.{◌∙◌, arith}
use Rattle.tl_core.proofs.ReaderLemmas.{now_long, record_is}
use Rattle.tl_core.proofs.interleaving.Core.record_at.Goals as goal

pub record_at-requires : goal.record_at-requires
record_at-requires c = let long = now_long _ _ _ _ _ _ c.self.invariant.core in let inside = rw (← c.self.view_is) at c.requires in omega arith

pub returns : goal.returns
returns c = rw (← c.self.view_is) (c.record_at.ensures ∙ record_is _ _ _ _ _ _ c.self.invariant.core c.args.node (rw (← c.self.view_is) at c.requires))
