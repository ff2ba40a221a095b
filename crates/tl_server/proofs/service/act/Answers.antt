use Rattle.std.proofs.Common.{ap, map, sym, subst, refl, List, [], false}
use Rattle.tl_json.specs.Requests.{request_form}
use Rattle.tl_workers.specs.declared.session.Did.{Did}
use Rattle.tl_workers.specs.Kept.{Gains}
use Rattle.tl_server.specs.declared.request.LineRequest.{LineRequest}
use Rattle.tl_server.specs.declared.outcome.RequestOutcome.TheVariants.{Batched, Sealed}
use Rattle.tl_server.specs.Requests.{line_view}
use Rattle.tl_server.specs.Outcomes.{CameOf}
use Rattle.tl_server.specs.Served.{NoTexts, KnowsNoKeys}
use Rattle.tl_server.specs.Gaining.{gains_nothing}
use Rattle.tl_server.proofs.LineAnswers.{batch_came, seal_outcome}
use Rattle.tl_server.proofs.service.act.Goals as goal

pub returns-in-Batch : goal.returns-in-Batch
returns-in-Batch g c =
    let s = c.args.session.now in
    let t = c.batch.new.session in
    let P : LineRequest → Type 0 = λ q. (x : List Did) × Gains s t x × CameOf (record { seals = c.args.engine.now.seals; grows = false; reads = NoTexts; keys = KnowsNoKeys; frozen = false }) (line_view q) x (Batched c.batch.result) in
    let asked = c.deref-in-Batch in
    let (x, gains, outcome) = batch_came asked.result.now s t c.args.engine.now.seals c.batch.result c.batch.ensures.each c.batch.ensures.refused c.batch.ensures.kept c.batch.ensures.err in
    subst P (sym c.in-Batch.is) (x, gains, (asked.result.now, ap (map request_form) asked.ensures.value, outcome))

pub returns-in-Seal : goal.returns-in-Seal
returns-in-Seal g c =
    let s = c.args.session.now in
    let seals = c.args.engine.now.seals in
    let answer = c.seal.result in
    let P : LineRequest → Type 0 = λ q. (x : List Did) × Gains s s x × CameOf (record { seals = seals; grows = false; reads = NoTexts; keys = KnowsNoKeys; frozen = false }) (line_view q) x (Sealed answer) in
    subst P (sym c.in-Seal.is) ([], gains_nothing s, (refl, seal_outcome seals answer c.seal.ensures.number c.seal.ensures.refused c.seal.ensures.rested))
