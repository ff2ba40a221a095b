use Rattle.tl_asm.proofs.LineWords.{line_read}
use Rattle.tl_asm.proofs.assembling.one_line.Goals as goal

pub returns : goal.returns
returns c = line_read
