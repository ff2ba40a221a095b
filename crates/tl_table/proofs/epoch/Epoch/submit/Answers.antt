use Rattle.std.proofs.Common.{◌≡◌, length, sym, ap, ◌∙◌, subst, Some}
use Rattle.tl_tree_locking.specs.History.{admits}
use Rattle.tl_core.specs.Cores.{CoreState, kept_turn}
use Rattle.tl_core.specs.Followed.{IsFollowFault}
use Rattle.tl_core.proofs.Submitted.{led_as, turn_behind}
use Rattle.tl_table.proofs.Submitted.{submit_fault}
use Rattle.tl_table.proofs.epoch.Epoch.submit.Goals as goal

pub returns-in-Err-clause-fault : goal.returns-in-Err-clause-fault
returns-in-Err-clause-fault c =
    let refused = subst (λ (k : CoreState). IsFollowFault k c.args.call c.args.segment c.in-Err.fault) (c.core-2.ensures ∙ ap (λ t. t.core) c.self.view_is) c.in-Err.ensures.fault in
    submit_fault c.args.self.now c.args.call c.args.segment c.in-Err.fault c.fault_of.result
    (ap (λ (k : CoreState). length k.seen.calls) (sym (c.core.ensures ∙ ap (λ t. t.core) c.self.view_is)) ∙ sym c.calls-fact.ensures.count ∙ c.calls-fact.ensures.admitted ∙ ap (λ (k : CoreState). admits k.seen.past) (c.core.ensures ∙ ap (λ t. t.core) c.self.view_is))
    c.fault_of.ensures.stale c.fault_of.ensures.other refused

pub returns-in-Advanced-clause-ok : goal.returns-in-Advanced-clause-ok
returns-in-Advanced-clause-ok c =
    let t = c.in-Ok.ensures in
    let kept = subst (λ (k : CoreState). kept_turn k c.args.call ≡ Some c.args.segment.from) (c.core-2.ensures ∙ ap (λ t. t.core) c.self.view_is) t.from in
    let led = rw c.in-Advanced.is at (led_as c.args.self.now.core c.args.call c.args.segment t.segment kept _ _ _ _ t.lent c.in_ok-lead.ensures.ok) in
    let turn = turn_behind c.args.self.now.core c.args.call c.args.segment t.segment kept _ _ _ _ t.lent c.in_ok-lead.ensures.ok _ t.shape in
    record { from = kept; came = (led.0, led.2 ∙ ap Some (sym turn ∙ sym c.into_turn.ensures)); turns = c.in_ok-lead.ensures.ok.turns; keeps = c.in_ok-lead.ensures.keeps }

pub returns-in-Blocked-clause-ok : goal.returns-in-Blocked-clause-ok
returns-in-Blocked-clause-ok c =
    let t = c.in-Ok.ensures in
    let kept = subst (λ (k : CoreState). kept_turn k c.args.call ≡ Some c.args.segment.from) (c.core-2.ensures ∙ ap (λ t. t.core) c.self.view_is) t.from in
    let led = rw c.in-Blocked.is at (led_as c.args.self.now.core c.args.call c.args.segment t.segment kept _ _ _ _ t.lent c.in_ok-lead.ensures.ok) in
    record { from = kept; came = ((c.in-Blocked.node, c.in-Blocked.holder, led.0), rw c.in-Blocked.is at c.in_ok-lead.ensures.blocked); turns = c.in_ok-lead.ensures.ok.turns; keeps = c.in_ok-lead.ensures.keeps }

pub returns-in-Some-clause-ok : goal.returns-in-Some-clause-ok
returns-in-Some-clause-ok c =
    let t = c.in-Ok.ensures in
    let kept = subst (λ (k : CoreState). kept_turn k c.args.call ≡ Some c.args.segment.from) (c.core-2.ensures ∙ ap (λ t. t.core) c.self.view_is) t.from in
    let led = rw c.in-Finished.is at (led_as c.args.self.now.core c.args.call c.args.segment t.segment kept _ _ _ _ t.lent c.in_ok-lead.ensures.ok) in
    record { from = kept; came = (led.0, c.in-Some.ensures.0, c.in-Some.ensures.1); turns = c.in_ok-lead.ensures.ok.turns; keeps = c.in_ok-lead.ensures.keeps }
