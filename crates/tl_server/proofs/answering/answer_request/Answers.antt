use Rattle.std.proofs.Common.{map, inr}
use Rattle.tl_server.specs.Answers.{line_text}
use Rattle.tl_server.specs.Requests.{line_view}
use Rattle.tl_server.specs.Outcomes.{outcome_text, later_did}
use Rattle.tl_server.proofs.Later.{answered_for}
use Rattle.tl_server.proofs.answering.answer_request.Goals as goal

pub returns-in-Some : goal.returns-in-Some
returns-in-Some g c =
    let d = c.in-Some.done in
    let (own, came, gains) = c.in-Some.ensures.done in (
      map (later_did d.base) own,
      line_text (outcome_text d.base d.outcome),
      gains,
      c.put_outcome.ensures,
      inr (answered_for (g.V.Service.ways c.args.service.now) (g.V.Service.may_seal c.args.visitor.now) (line_view c.args.request.now) own d.base d.outcome came c.in-Some.ensures.sealable),
    )
