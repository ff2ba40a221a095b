use Rattle.tl_store_history.proofs.Compared.{compared_sealed}
use Rattle.tl_store_history.proofs.laws.epochs_are_sealed.Goals as goal

pub returns : goal.returns
returns c = λ contents n rows v nodes there are whole has parents counts reached done. compared_sealed contents n rows v nodes there are whole has parents counts reached done
