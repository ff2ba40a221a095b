use Rattle.tl_store_laws.proofs.Leading.{changes_lead}
use Rattle.tl_store_laws.proofs.laws.changes_lead.Goals as goal

pub returns : goal.returns
returns c = λ before now changes many leads. changes_lead before now changes many leads
