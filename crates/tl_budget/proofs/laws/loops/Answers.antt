use Rattle.tl_budget.proofs.SectionCosts.{weight_is}
use Rattle.tl_budget.proofs.LoopWays.{closes_further_on, listed, inside_or_apart}
use Rattle.tl_budget.proofs.laws.loops.Goals as goal

pub returns : goal.returns
returns c = record { close = closes_further_on; listed = listed; nested = inside_or_apart; weighed = weight_is }
