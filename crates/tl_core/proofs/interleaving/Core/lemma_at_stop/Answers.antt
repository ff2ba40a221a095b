use Rattle.tl_core.proofs.KeptTurns.{at_stop}
use Rattle.tl_core.proofs.interleaving.Core.lemma_at_stop.Goals as goal

pub returns : goal.returns
returns c = rw (← c.self.view_is) (λ t s kept stops. at_stop _ _ _ _ _ _ _ c.self.invariant c.args.call t s kept stops)
