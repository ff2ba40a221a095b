use Rattle.tl_verify.proofs.FirstFaults.{none_where_accepted, one_first}
use Rattle.tl_verify.proofs.laws.first_faults.Goals as goal

pub returns : goal.returns
returns c = record { none = none_where_accepted; one = one_first }
