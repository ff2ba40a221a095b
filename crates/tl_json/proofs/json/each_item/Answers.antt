use Rattle.std.proofs.Common.{◌≡◌, ◌++◌, ◌∷◌, [], ◌+◌, Some, option_map, map, drop, get_or, sym, ap, ◌∙◌, arith}
use Rattle.serde_json.specs.View.{view, items_view}
use Rattle.tl_tree.specs.Reading.{each_item}
use Rattle.tl_tree.proofs.Items.{onto}
use Rattle.tl_json.proofs.Items.{item_read}
use Rattle.tl_json.proofs.json.each_item.Goals as goal

pub loop-item-preserved : goal.loop-item-preserved
loop-item-preserved g c =
    let form = g.T.FromValue.form in
    let form_of = g.T.FromValue.form_of in
    let vs = c.args.items.now in
    let i = c.loop-item.item-index in
    let before : onto (map form c.loop-item.found.items) (each_item form_of (items_view (drop i vs))) ≡ each_item form_of (items_view vs) = c.loop-item.invariant in
    let more : c.push.new.self.items ≡ c.loop-item.found.items ++ c.in-Some.one ∷ [] = c.in_ok-push.ensures.items in
    let found : form_of (view (get_or vs i c.item-item.result)) ≡ Some (form c.in-Some.one) =
    ap (λ v. form_of (view v)) (sym c.item-item.is) ∙ sym c.in_ok-one.ensures ∙ ap (option_map form) c.in-Some.is in
    let next = item_read form form_of c.loop-item.found.items c.in-Some.one vs i c.item-item.result (omega arith) found in
    let after : onto (map form c.push.new.self.items) (each_item form_of (items_view (drop (i + 1) vs))) ≡ each_item form_of (items_view vs) = rw more (next ∙ before) in
    after
