use Rattle.std.proofs.Common.{◌≡◌, ◌-◌, length, take, drop, pos}
use Rattle.std.specs.Prelude.{replicate}
use Rattle.serde_json.specs.View.{items_view}
use Rattle.tl_tree.specs.Reading.{each_item, integer_of}
use Rattle.tl_width.specs.Fields.{field_count}
use Rattle.tl_tree.proofs.Items.{onto}
use Rattle.tl_tree.proofs.value.record_from_items.Given as goal

abbrev pub invariant-loop-i : goal.invariant-loop-i
invariant-loop-i l =
    (length l.fields ≡ field_count)
    × (drop l.i l.fields ≡ replicate (field_count - l.i) (pos 0))
    × (onto (take l.i l.fields) (each_item integer_of (items_view (drop l.i l.items))) ≡ each_item integer_of (items_view l.items))
