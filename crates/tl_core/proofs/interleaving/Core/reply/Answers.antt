use Rattle.std.proofs.Common.{◌∙◌}
use Rattle.tl_core.proofs.OpenCall.{reply_read}
use Rattle.tl_core.proofs.interleaving.Core.reply.Goals as goal

pub returns : goal.returns
returns c =
    let known = rw (← c.self.view_is) at c.requires in
    rw (← c.self.view_is) (c.reply.ensures ∙ reply_read _ _ _ _ _ _ _ c.self.invariant c.args.call c.index.result.now known c.index.ensures)
