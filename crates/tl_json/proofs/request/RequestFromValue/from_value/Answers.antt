use Rattle.std.proofs.Common.{rules, ◌≡◌, ◌≢◌, length, Some}
use Rattle.serde_json.specs.View.{view, items_view}
use Rattle.serde_json.specs.Find.{as_array}
use Rattle.tl_json.proofs.Items.{no_request_in}
use Rattle.tl_json.proofs.request.RequestFromValue.from_value.Goals as goal

pub returns-in_default-two_of : goal.returns-in_default-two_of
returns-in_default-two_of c =
    let items : Some (items_view c.in-Some.items.now.items) ≡ as_array (view c.args.value.now) = search rules in
    let other : length c.in-Some.items.now.items ≢ 2 = search rules in
    no_request_in (view c.args.value.now) c.in-Some.items.now.items items other
