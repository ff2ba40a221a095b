use Rattle.tl_store_history.proofs.Serial.{line_serial}
use Rattle.tl_store_history.proofs.laws.history_is_serial.Goals as goal

pub returns : goal.returns
returns c = λ contents t es history. line_serial t.parents t.records es history.line
