use Rattle.tl_compiler.proofs.context.Context.failure.Goals as goal

pub returns : goal.returns
returns c = λ x agrees. c.label.ensures x.pad agrees.pads
