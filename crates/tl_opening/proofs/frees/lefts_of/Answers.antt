use Rattle.std.proofs.Common.{sym, ap, ◌∙◌}
use Rattle.tl_opening.specs.Opening.{records_left}
use Rattle.tl_opening.proofs.BehindLemmas.{now-free, now-other}
use Rattle.tl_opening.proofs.frees.lefts_of.Goals as goal
use Rattle.tl_opening.proofs.frees.lefts_of.Goals.{in-Free+in_ok-push, in_default}

pub loop-event-preserved : goal.loop-event-preserved
loop-event-preserved c =
    elim c.match-event.branch [
      | in-Free+in_ok-push w ↦ λ records.
          ap (λ v. records_left records v.items) w.lefts-is ∙ ap (records_left records) w.in_ok-push.ensures.items
          ∙ now-free c.args.events.now c.loop-event.event-index _ c.loop-event.lefts.items c.loop-event-test.true c.loop-event.invariant w.in-Free.node w.in-Free.call w.in-Free.left w.in-Free.is records
      | in_default w ↦ λ records.
          ap (λ v. records_left records v.items) w.lefts-is ∙ c.loop-event.invariant records
          ∙ sym (now-other c.args.events.now c.loop-event.event-index _ c.loop-event-test.true w.in_default.not-Free records)
    ]
