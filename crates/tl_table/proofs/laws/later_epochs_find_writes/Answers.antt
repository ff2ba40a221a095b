use Rattle.tl_table.proofs.AcrossEpochs.{finds_across}
use Rattle.tl_table.proofs.laws.later_epochs_find_writes.Goals as goal

pub returns : goal.returns
returns c = finds_across
