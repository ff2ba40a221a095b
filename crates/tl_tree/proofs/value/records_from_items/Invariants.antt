use Rattle.std.proofs.Common.{◌≡◌, drop}
use Rattle.serde_json.specs.View.{items_view}
use Rattle.tl_tree.specs.Reading.{each_item, record_of}
use Rattle.tl_tree.proofs.Items.{onto}
use Rattle.tl_tree.proofs.value.records_from_items.Given as goal

abbrev pub invariant-loop-item : goal.invariant-loop-item
invariant-loop-item l = onto l.records.items (each_item (record_of l.width) (items_view (drop l.item-index l.items))) ≡ each_item (record_of l.width) (items_view l.items)
