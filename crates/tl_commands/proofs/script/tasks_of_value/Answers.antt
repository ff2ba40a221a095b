use Rattle.std.proofs.Common.{sym, ◌∙◌}
use Rattle.serde_json.specs.View.{view, members_view}
use Rattle.serde_json.proofs.Views.{members_len-members_view}
use Rattle.tl_commands.proofs.ScriptLemmas.{tasks_found, tasks_other}
use Rattle.tl_commands.proofs.script.tasks_of_value.Goals as goal

pub returns-then-len-ne1 : goal.returns-then-len-ne1
returns-then-len-ne1 c =
    let entries = c.in_ok-as_object.field-0.now.entries in
    sym (tasks_other c.args.tasks.now (view c.args.value.now) (members_view entries) (sym c.in_ok-as_object.ensures) (λ one. c.if-len-ne1.true (c.len.ensures.len ∙ sym (members_len-members_view entries) ∙ one)))

pub returns : goal.returns
returns c =
    let entries = c.in_ok-as_object.field-0.now.entries in
    c.get.ensures ∙ sym (tasks_found c.args.tasks.now (view c.args.value.now) (members_view entries) (sym c.in_ok-as_object.ensures) (members_len-members_view entries ∙ sym c.len.ensures.len ∙ c.if-len-ne1.false))
