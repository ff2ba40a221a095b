use Rattle.tl_audit.proofs.JoinLemmas.{cut_clean, first_of_all}
use Rattle.tl_audit.proofs.laws.chains_cut.Goals as goal

pub returns-clause-cut : goal.returns-clause-cut
returns-clause-cut c = λ before chains clean. cut_clean before chains clean

pub returns-clause-fault : goal.returns-clause-fault
returns-clause-fault c = λ before ts us f clean h. first_of_all before ts us f clean h
