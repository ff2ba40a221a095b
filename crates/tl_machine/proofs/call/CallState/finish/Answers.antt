use Rattle.std.proofs.Common.{refl}
use Rattle.tl_machine.proofs.LockFreeEnd.{ends}
use Rattle.tl_machine.proofs.call.CallState.finish.Goals as goal

pub returns : goal.returns
returns c = ends _ _ c.requires.stands.accepted c.args.self.now c.requires.stands c.requires.end _ refl
