use Rattle.std.proofs.Common.{rules, string_bytes}
use Rattle.tl_server.proofs.LineAnswers.{granted}
use Rattle.tl_server.proofs.once.call_once.Goals as goal

pub returns-in-Granted : goal.returns-in-Granted
returns-in-Granted g c =
    let call = c.args.call.now in
    granted (g.J.Journal.is_storing c.args.journal.now) c.claim.result c.args.engine.now.seals (string_bytes call.request.name, call.request.args.items) c.args.session.now c.call-answer.new.session c.call-answer.result c.claim.ensures c.in-Granted.is
    (search rules) (search rules) c.call-answer.ensures.err c.call-answer.ensures.refused
