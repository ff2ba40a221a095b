use Rattle.std.proofs.Common.{◌≡◌, ◌∙◌, true, false, sym}
use Rattle.tl_procedures.proofs.procedures.Procedures.replace_all.Goals as goal

pub returns-then-not-has_all-clause-fault : goal.returns-then-not-has_all-clause-fault
returns-then-not-has_all-clause-fault c = λ _ known. absurd (let e : false ≡ true = sym c.if-not-has_all.true ∙ c.has_all.ensures.1 known in cc)
