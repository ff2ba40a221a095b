use Rattle.tl_store_laws.proofs.Replaced.{latest_replaced}
use Rattle.tl_store_laws.proofs.laws.latest_are_replaced.Goals as goal

pub returns : goal.returns
returns c = λ all others known. latest_replaced all others known
