use Rattle.std.proofs.Common.{rules, ◌≡◌, ◌≢◌, ◌<◌, List, Some, length, arith}
use Rattle.tl_tree_locking.specs.declared.event.Event.{Event}
use Rattle.tl_trail.specs.declared.fault.TrailFault.TheVariants.{NotTrail, Memory}
use Rattle.tl_trail.specs.Reading.{events_as}
use Rattle.tl_trail.proofs.EventCount.{length-events_as}
use Rattle.tl_trail.proofs.reading.checked_history.Goals as goal

pub returns-in_err-history-clause-fault : goal.returns-in_err-history-clause-fault
returns-in_err-history-clause-fault c =
    let e = c.in_err-history.field-0.0 in
    let forms = c.args.forms.now in
    let wrong : e ≢ Memory → (e ≡ NotTrail) × ((events : List Event) → events_as c.args.calls c.args.nodes forms ≡ Some events → 1048576 < length events) =
    λ ne. (let told = c.in_err-history.ensures.fault ne in (
      told.0,
      λ events is. (let many = told.1 in let size = length-events_as c.args.calls c.args.nodes forms events is in omega arith),
    )) in
    search rules
