use Rattle.tl_store_file.proofs.Resting.{lists_tables}
use Rattle.tl_store_file.proofs.opening.unopened.Goals as goal

pub returns-in-Ok-new-clause-lists : goal.returns-in-Ok-new-clause-lists
returns-in-Ok-new-clause-lists g c = lists_tables _ _ c.in-Ok-new.ensures.schema c.tables.ensures
