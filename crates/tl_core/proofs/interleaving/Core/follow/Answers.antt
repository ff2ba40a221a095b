use Rattle.std.proofs.Common.{sym, ap, ◌∙◌, Some}
use Rattle.tl_core.proofs.FollowAnswers.{some_reply}
use Rattle.tl_core.proofs.Submitted.{led_as, turn_behind}
use Rattle.tl_core.proofs.interleaving.Core.follow.Goals as goal

pub returns-in-Advanced-clause-followed : goal.returns-in-Advanced-clause-followed
returns-in-Advanced-clause-followed c =
    let t = c.in_ok-lent.ensures in
    let led = rw c.in-Advanced.is at (led_as c.args.self.now c.args.call c.args.segment t.segment t.from _ _ _ _ t.lent c.in_ok-lead.ensures.ok) in
    let turn = turn_behind c.args.self.now c.args.call c.args.segment t.segment t.from _ _ _ _ t.lent c.in_ok-lead.ensures.ok _ t.shape in
    (led.0, led.2 ∙ ap Some (sym turn ∙ sym c.into_turn.ensures))

pub returns-in-Blocked-clause-followed : goal.returns-in-Blocked-clause-followed
returns-in-Blocked-clause-followed c =
    let t = c.in_ok-lent.ensures in
    rw c.in-Blocked.is at (led_as c.args.self.now c.args.call c.args.segment t.segment t.from _ _ _ _ t.lent c.in_ok-lead.ensures.ok)

pub returns-in-Some-clause-followed : goal.returns-in-Some-clause-followed
returns-in-Some-clause-followed c =
    let t = c.in_ok-lent.ensures in
    let led = rw c.in-Finished.is at (led_as c.args.self.now c.args.call c.args.segment t.segment t.from _ _ _ _ t.lent c.in_ok-lead.ensures.ok) in
    (led.0, led.2, c.copy.ensures ∙ (some_reply _ _ _ c.in-Some.ensures).1)
