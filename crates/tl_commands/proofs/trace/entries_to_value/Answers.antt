use Rattle.std.proofs.Common.{ap, ◌∙◌, map, arith}
use Rattle.std.proofs.lemmas.List.{take_all}
use Rattle.serde_json.specs.Data.{array}
use Rattle.serde_json.specs.View.{view, items_of}
use Rattle.serde_json.proofs.Views.{view-Array}
use Rattle.tl_tree.proofs.Items.{views_more}
use Rattle.tl_commands.specs.Trace.{entry_data}
use Rattle.tl_commands.proofs.trace.entries_to_value.Goals as goal

pub loop-entry-preserved : goal.loop-entry-preserved
loop-entry-preserved c =
    ap (map view) c.in_ok-push.ensures.items ∙ views_more entry_data c.loop-entry.items.items c.in_ok-entry_to_value.field-0 c.args.entries.now c.loop-entry.entry-index _ (omega arith) c.loop-entry.invariant c.in_ok-entry_to_value.ensures

pub returns : goal.returns
returns c =
    view-Array c.loop-entry.items ∙ ap (λ ds. array (items_of ds)) (c.loop-entry.invariant ∙ ap (map entry_data) (take_all c.loop-entry.entry-index c.args.entries.now (omega arith)))
