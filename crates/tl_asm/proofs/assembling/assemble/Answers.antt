use Rattle.tl_asm.proofs.OneCode.{only_one}
use Rattle.tl_asm.proofs.assembling.assemble.Goals as goal

pub returns-clause-only : goal.returns-clause-only
returns-clause-only c = λ code w. only_one c.args.text.now c.code_of.result code c.code_of.ensures.found c.code_of.ensures.fault w
