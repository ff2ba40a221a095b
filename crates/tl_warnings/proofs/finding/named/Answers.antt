use Rattle.std.proofs.lemmas.Result.{on_ok_weaker}
use Rattle.tl_warnings.specs.Finding.{no_value, some_value}
use Rattle.tl_warnings.proofs.finding.named.Goals as goal

pub returns-in-Some : goal.returns-in-Some
returns-in-Some c = rw c.in-Some.is (on_ok_weaker c.value.result (λ w. some_value w) c.value.ensures)

pub returns-in-None : goal.returns-in-None
returns-in-None c = rw c.in-None.is no_value
