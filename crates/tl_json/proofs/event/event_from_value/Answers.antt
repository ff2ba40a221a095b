use Rattle.std.proofs.Common.{rules, ◌≡◌, ◌≢◌, length, Some, None, ◌∙◌}
use Rattle.serde_json.specs.View.{view, items_view}
use Rattle.serde_json.specs.Find.{as_array}
use Rattle.tl_json.proofs.Items.{no_event_in}
use Rattle.tl_json.proofs.event.event_from_value.Goals as goal

pub returns-in_err-letter : goal.returns-in_err-letter
returns-in_err-letter c =
    let items : Some (items_view c.in_ok-items.items.now.items) ≡ as_array (view c.args.value.now) = search rules in
    let two : length c.in_ok-items.items.now.items ≢ 2 = search rules in
    let four : length c.in_ok-items.items.now.items ≢ 4 = search rules in
    let none : c.from_residual-in_err-letter.result ≡ None = search rules in
    none ∙ no_event_in c.args.width (view c.args.value.now) c.in_ok-items.items.now.items items two four
