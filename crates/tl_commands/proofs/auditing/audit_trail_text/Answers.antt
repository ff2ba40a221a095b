use Rattle.std.proofs.Common.{refl, ap, inl}
use Rattle.tl_commands.specs.declared.fault.CliFault.TheVariants.{Trail}
use Rattle.tl_commands.specs.Faults.{status_of}
use Rattle.tl_commands.proofs.auditing.audit_trail_text.Goals as goal

pub returns-in-Err-clause-fault : goal.returns-in-Err-clause-fault
returns-in-Err-clause-fault g c = λ known. inl (c.in-Err.fault, refl, c.in-Err.ensures.fault (λ e. known (ap (λ f. status_of (Trail f)) e)))
