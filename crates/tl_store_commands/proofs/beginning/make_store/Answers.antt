use Rattle.tl_store_commands.proofs.BeginningLemmas.{begins_with}
use Rattle.tl_store_commands.proofs.beginning.make_store.Goals as goal

pub returns-clause-begins : goal.returns-clause-begins
returns-clause-begins g c = λ clean.
    begins_with c.args.tree c.in-Ok.core (g.S.Store.view c.in_ok-ledger.ledger.store).committed c.in_ok-first.first c.in-Ok.ensures.ok c.in_ok-first.ensures (c.in_ok-ledger.ensures.stored clean)
