use Rattle.std.proofs.Common.{rules, arith, ap, ◌∙◌, ◌≡◌, ◌≢◌, length, Some}
use Rattle.serde_json.specs.View.{view, items_view}
use Rattle.serde_json.specs.Find.{as_array}
use Rattle.std.specs.Prelude.{option_and_then}
use Rattle.tl_tree.specs.Reading.{each_item}
use Rattle.tl_server.specs.Following.{number_of, position_in}
use Rattle.tl_server.proofs.FollowLemmas.{no_position_in, position_read}
use Rattle.tl_server.proofs.follow.position_of_value.Goals as goal

pub returns-in_default : goal.returns-in_default
returns-in_default c =
    let vs = c.in_ok-as_array.field-0.now.items in
    let items : Some (items_view vs) ≡ as_array (view c.args.value.now) = search rules in
    let size : length c.as_slice.result.now ≡ length vs = ap length c.as_slice.ensures.value in
    let other : length vs ≢ 7 = λ e. omega (arith, e, size, c.in_default.len_below) in
    no_position_in (view c.args.value.now) vs items other

pub returns-in_default-2 : goal.returns-in_default-2
returns-in_default-2 c =
    let vs = c.in_ok-as_array.field-0.now.items in
    let items : Some (items_view vs) ≡ as_array (view c.args.value.now) = search rules in
    let size : length c.as_slice.result.now ≡ length vs = ap length c.as_slice.ensures.value in
    let other : length vs ≢ 7 = λ e. omega (arith, e, size, c.in_default.len_at_least) in
    no_position_in (view c.args.value.now) vs items other

pub returns : goal.returns
returns c =
    let vs = c.in_ok-as_array.field-0.now.items in
    let items : Some (items_view vs) ≡ as_array (view c.args.value.now) = search rules in
    let xs = c.as_slice.result.now in
    let size : length xs ≡ 7 = omega (arith, c.in-len7.len_at_least, c.in-len7.len_below) in
    let r0 : number_of (view c.volume-item.result) ≡ Some c.in_ok-as_u64.field-0 = search rules in
    let r1 : number_of (view c.nodes-item.result) ≡ Some c.in_ok-as_u64-2.field-0 = search rules in
    let r2 : number_of (view c.procedures-item.result) ≡ Some c.in_ok-as_u64-3.field-0 = search rules in
    let r3 : number_of (view c.calls-item.result) ≡ Some c.in_ok-as_u64-4.field-0 = search rules in
    let r4 : number_of (view c.turns-item.result) ≡ Some c.in_ok-as_u64-5.field-0 = search rules in
    let r5 : number_of (view c.replies-item.result) ≡ Some c.in_ok-as_u64-6.field-0 = search rules in
    let r6 : number_of (view c.seals-item.result) ≡ Some c.in_ok-as_u64-7.field-0 = search rules in
    position_read xs c.volume-item.result c.nodes-item.result c.procedures-item.result c.calls-item.result c.turns-item.result c.replies-item.result c.seals-item.result _ _ _ _ _ _ _ size c.volume-item.is c.nodes-item.is c.procedures-item.is c.calls-item.is c.turns-item.is c.replies-item.is c.seals-item.is r0 r1 r2 r3 r4 r5 r6
    ∙ ap (λ l. option_and_then position_in (each_item number_of (items_view l))) c.as_slice.ensures.value
    ∙ ap (λ o. option_and_then position_in (option_and_then (each_item number_of) o)) items
