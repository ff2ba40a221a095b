use Rattle.std.proofs.Common.{refl}
use Rattle.tl_recover.proofs.SameTurns.{same_history}
use Rattle.tl_recover.proofs.laws.turns_tell_all.Goals as goal

pub returns : goal.returns
returns c = λ parents opening v w tree size rv rw' agree turns. same_history parents opening tree size v.past w.past v w rv rw' refl refl agree turns
