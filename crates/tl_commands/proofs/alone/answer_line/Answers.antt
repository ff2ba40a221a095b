use Rattle.std.proofs.Common.{◌≡◌, ap, ap₂, ◌∙◌, codes}
use Rattle.serde_json.specs.Data.{object, member, no_members}
use Rattle.serde_json.specs.Written.{compact_text, has_float}
use Rattle.serde_json.specs.View.{view}
use Rattle.tl_tree.specs.Writing.{integers_data}
use Rattle.tl_commands.proofs.AloneLines.{answer_data, answer_whole, answer_written}
use Rattle.tl_commands.proofs.alone.answer_line.Goals as goal

pub returns : goal.returns
returns c =
    let reply = c.args.answer.now.reply in
    let steps = c.args.answer.now.steps in
    let list : view c.in_ok-reply.reply ≡ integers_data reply = c.in_ok-reply.ensures.value ∙ ap integers_data c.values.ensures.same in
    let is : view c.in_ok-value.value ≡ answer_data reply steps =
    c.in_ok-value.ensures ∙ ap₂ (λ a b. object (member (codes "reply") a (member (codes "steps") b no_members))) list c.from.ensures in
    c.in_ok-to_string.ensures.text (ap has_float is ∙ answer_whole reply steps) ∙ ap compact_text is ∙ answer_written reply steps
