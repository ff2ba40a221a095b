use Rattle.std.proofs.Common.{◌∙◌, ap}
use Rattle.std.specs.Prelude.{Some}
use Rattle.tl_workers.proofs.Askings.{asked_here, got_here}
use Rattle.tl_workers.proofs.matching.next_asked.Goals as goal

pub returns-in-Asked : goal.returns-in-Asked
returns-in-Asked c = c.loop-i.invariant ∙ asked_here c.args.session.now.kept c.loop-i.i c.in-Asked.asked (c.entry.ensures ∙ ap Some c.in-Asked.is)

pub loop-i-preserved : goal.loop-i-preserved
loop-i-preserved c = c.loop-i.invariant ∙ got_here c.args.session.now.kept c.loop-i.i c.in_default.field-0 (c.entry.ensures ∙ ap Some c.in_default.is)
