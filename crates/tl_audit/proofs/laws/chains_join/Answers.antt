use Rattle.tl_audit.proofs.JoinLemmas.{joined_clean, joined_serial}
use Rattle.tl_audit.proofs.laws.chains_join.Goals as goal

pub returns-clause-join : goal.returns-clause-join
returns-clause-join c = λ before chains clean. joined_clean before chains clean

pub returns-clause-serial : goal.returns-clause-serial
returns-clause-serial c = λ chains trails clean. joined_serial chains trails clean
