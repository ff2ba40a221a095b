use Rattle.std.proofs.Common.{ap, ◌∙◌, map, arith}
use Rattle.std.proofs.lemmas.List.{take_all}
use Rattle.serde_json.specs.Data.{array}
use Rattle.serde_json.specs.View.{view, items_of}
use Rattle.serde_json.proofs.Views.{view-Array}
use Rattle.tl_tree.proofs.Items.{views_more}
use Rattle.tl_commands.specs.Run.{answer_data}
use Rattle.tl_commands.proofs.answers.answers_to_value.Goals as goal

pub loop-answer-preserved : goal.loop-answer-preserved
loop-answer-preserved c =
    ap (map view) c.in_ok-push.ensures.items ∙ views_more answer_data c.loop-answer.items.items c.in_ok-answer_to_value.field-0 c.args.answers.now c.loop-answer.answer-index c.answer-item.result (omega arith) c.loop-answer.invariant (c.in_ok-answer_to_value.ensures ∙ ap answer_data c.answer-item.is)

pub returns : goal.returns
returns c =
    view-Array c.loop-answer.items ∙ ap (λ ds. array (items_of ds)) (c.loop-answer.invariant ∙ ap (map answer_data) (take_all c.loop-answer.answer-index c.args.answers.now (omega arith)))
