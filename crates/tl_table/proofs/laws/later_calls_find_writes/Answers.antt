use Rattle.tl_table.proofs.Finding.{finds_what_was_left}
use Rattle.tl_table.proofs.laws.later_calls_find_writes.Goals as goal

pub returns : goal.returns
returns c = finds_what_was_left
