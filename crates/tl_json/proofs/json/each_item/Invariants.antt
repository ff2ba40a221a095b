use Rattle.std.proofs.Common.{◌≡◌, drop, map}
use Rattle.serde_json.specs.View.{items_view}
use Rattle.tl_tree.specs.Reading.{each_item}
use Rattle.tl_tree.proofs.Items.{onto}
use Rattle.tl_json.proofs.json.each_item.Given as goal

abbrev pub invariant-loop-item : goal.invariant-loop-item
invariant-loop-item g l = onto (map g.T.FromValue.form l.found.items) (each_item g.T.FromValue.form_of (items_view (drop l.item-index l.items))) ≡ each_item g.T.FromValue.form_of (items_view l.items)
