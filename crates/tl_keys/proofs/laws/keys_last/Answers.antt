use Rattle.tl_keys.proofs.Remembering.{lasts_here, lasts_on, lasts_found}
use Rattle.tl_keys.proofs.laws.keys_last.Goals as goal

pub returns-clause-here : goal.returns-clause-here
returns-clause-here c = λ old new key kept now. lasts_here old new key kept now

pub returns-clause-on : goal.returns-clause-on
returns-clause-on c = λ old new key other kept n now lasts. lasts_on old new key other kept n now lasts

pub returns-clause-found : goal.returns-clause-found
returns-clause-found c = λ index key n lasts. lasts_found index key n lasts
