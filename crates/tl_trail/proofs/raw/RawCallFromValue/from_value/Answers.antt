use Rattle.std.proofs.Common.{rules, ◌≡◌, ◌≢◌, length, Some}
use Rattle.serde_json.specs.View.{view, items_view}
use Rattle.serde_json.specs.Find.{as_array}
use Rattle.tl_trail.proofs.TextForms.{no_call_in}
use Rattle.tl_trail.proofs.raw.RawCallFromValue.from_value.Goals as goal

pub returns-in_default-three_of : goal.returns-in_default-three_of
returns-in_default-three_of c =
    let items : Some (items_view c.in-Some.items.now.items) ≡ as_array (view c.args.value.now) = search rules in
    let other : length c.in-Some.items.now.items ≢ 3 = search rules in
    no_call_in (view c.args.value.now) c.in-Some.items.now.items items other
