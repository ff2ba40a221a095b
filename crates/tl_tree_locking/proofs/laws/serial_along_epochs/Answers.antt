use Rattle.tl_tree_locking.proofs.EpochsJoined.{serial-each, epochs-serial}
use Rattle.tl_tree_locking.proofs.laws.serial_along_epochs.Goals as goal

pub returns-clause-one : goal.returns-clause-one
returns-clause-one c = λ meanings order opening. serial-each meanings order opening

pub returns-clause-tree : goal.returns-clause-tree
returns-clause-tree c = λ parents opening worlds orders follow rest agree. (epochs-serial parents opening worlds orders follow rest agree).0

pub returns-clause-replies : goal.returns-clause-replies
returns-clause-replies c = λ parents opening worlds orders follow rest agree. (epochs-serial parents opening worlds orders follow rest agree).1
