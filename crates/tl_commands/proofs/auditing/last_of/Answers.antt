use Rattle.std.proofs.Common.{ap, ◌∙◌}
use Rattle.tl_audit.specs.Chains.{last_after}
use Rattle.tl_commands.proofs.AuditLemmas.{last_pushed}
use Rattle.tl_commands.proofs.auditing.last_of.Goals as goal

pub returns : goal.returns
returns c = λ before. ap (last_after before) c.in-Some.ensures.items ∙ last_pushed before c.pop.new.self.items c.in-Some.last
