use Rattle.std.proofs.Common.{length, ap, ◌∙◌}
use Rattle.tl_core.proofs.OpenCall.{known_read, arity_read}
use Rattle.tl_core.proofs.interleaving.Core.request.Goals as goal

pub returns-clause-known : goal.returns-clause-known
returns-clause-known c =
    let known = rw (← c.self.view_is) at c.requires in
    rw (← c.self.view_is) (known_read _ _ _ _ _ _ _ c.self.invariant c.args.call c.index-current.result.now known c.index-current.ensures)

pub returns-clause-arity : goal.returns-clause-arity
returns-clause-arity c =
    let known = rw (← c.self.view_is) at c.requires in
    rw (← c.self.view_is) (ap length c.deref.ensures.0 ∙ arity_read _ _ _ _ _ _ _ c.self.invariant c.args.call c.index-current.result.now known c.index-current.ensures)
