use Rattle.std.proofs.Common.{◌≡◌, ◌∙◌, option_map}
use Rattle.std.proofs.lemmas.Result.{IfOk-weaker}
use Rattle.serde_json.specs.View.{view}
use Rattle.tl_tree.specs.declared.record.Width.TheVariants.{Wide, Narrow}
use Rattle.tl_json.specs.Lists.{each_of}
use Rattle.tl_json.specs.Events.{event_of}
use Rattle.tl_json.proofs.Items.{own_forms}
use Rattle.tl_json.proofs.event.events_from_value.Goals as goal

pub returns-in-Wide : goal.returns-in-Wide
returns-in-Wide c =
    rw (c.in-Wide.is) (IfOk-weaker c.each_of.result _ (λ found. option_map (λ v. v.items) found ≡ each_of (event_of Wide) (view c.args.value.now)) (λ found is. own_forms found ∙ is) c.each_of.ensures)

pub returns-in-Narrow : goal.returns-in-Narrow
returns-in-Narrow c =
    rw (c.in-Narrow.is) (IfOk-weaker c.each_of-in-Narrow.result _ (λ found. option_map (λ v. v.items) found ≡ each_of (event_of Narrow) (view c.args.value.now)) (λ found is. own_forms found ∙ is) c.each_of-in-Narrow.ensures)
