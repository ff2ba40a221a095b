use Rattle.std.proofs.Common.{true}
use Rattle.tl_server.specs.Requests.{line_view}
use Rattle.tl_server.specs.Served.{ReadBy, keying}
use Rattle.tl_server.proofs.Later.{performed, no_hand_over}
use Rattle.tl_server.proofs.relay.RelayService.perform.Goals as goal

pub returns-in_default-clause-done : goal.returns-in_default-clause-done
returns-in_default-clause-done g c =
    let done = c.perform_by_engine in
    performed true c.args.self.now.frozen (ReadBy (record { has = g.K.Texts.has; lacks = g.K.Texts.lacks })) (keying (g.J.Journal.is_storing c.args.self.now.journal)) (line_view c.args.request.now) c.args.visitor.now done.new.place done.result
    (λ is. absurd (no_hand_over c.args.request.now c.in_default.not-Replace c.in_default.not-Grow is)) done.ensures.came done.ensures.later
