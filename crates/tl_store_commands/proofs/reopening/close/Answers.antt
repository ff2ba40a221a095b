use Rattle.std.proofs.Common.{inr, refl}
use Rattle.tl_store_commands.proofs.reopening.close.Goals as goal

pub returns-in-Ok-clause-stored : goal.returns-in-Ok-clause-stored
returns-in-Ok-clause-stored g c = λ clean contents marked held.
    let stored = c.in-Ok.ensures.stored clean contents marked held in
    (_, inr (c.in_ok-news.news, c.in_ok-news.ensures.closing, refl), stored.0, stored.1)
