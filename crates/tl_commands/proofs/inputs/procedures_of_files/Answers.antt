use Rattle.std.proofs.Common.{refl}
use Rattle.tl_commands.proofs.InputLemmas.{no_memory}
use Rattle.tl_sources.specs.Faults.{is_memory}
use Rattle.tl_commands.proofs.inputs.procedures_of_files.Goals as goal

pub returns-in-Err-clause-fault : goal.returns-in-Err-clause-fault
returns-in-Err-clause-fault c = λ known. (c.in-Err.refused, refl, c.in-Err.ensures.fault (no_memory (is_memory c.in-Err.refused.fault) known))
