use Rattle.tl_budget.proofs.FirstFaults.{nested_or_first, none_where_nested, one_first}
use Rattle.tl_budget.proofs.laws.first_faults.Goals as goal

pub returns : goal.returns
returns c = record { some = nested_or_first; none = none_where_nested; one = one_first }
