use Rattle.tl_audit.proofs.FileLemmas.{files_serial}
use Rattle.tl_audit.proofs.laws.files_are_serial.Goals as goal

pub returns : goal.returns
returns c = record { serial = files_serial }
