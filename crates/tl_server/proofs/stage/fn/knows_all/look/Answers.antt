use Rattle.std.proofs.Common.{◌≡◌, ◌∙◌, true, false, sym}
use Rattle.tl_server.proofs.stage.fn.knows_all.look.Goals as goal

pub returns : goal.returns
returns c = λ no. (c.procedures.result.now, λ known. absurd (let e : false ≡ true = sym no ∙ c.has_all.ensures.1 known in cc))
