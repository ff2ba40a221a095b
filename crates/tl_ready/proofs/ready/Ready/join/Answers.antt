use Rattle.tl_ready.proofs.PassSteps.{admits}
use Rattle.tl_ready.proofs.ready.Ready.join.Goals as goal

pub pass-pass-requires : goal.pass-pass-requires
pass-pass-requires c = admits
