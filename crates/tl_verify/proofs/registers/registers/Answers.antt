use Rattle.tl_verify.proofs.RegistersLemmas.{settled_fits}
use Rattle.tl_verify.proofs.registers.registers.Goals as goal

pub returns : goal.returns
returns c = settled_fits c.args.code.now c.walk.new.states c.walk.result c.requires.some c.requires.ahead c.walk.ensures.settled c.walk.ensures.fault
