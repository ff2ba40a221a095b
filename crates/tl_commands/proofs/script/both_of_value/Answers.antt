use Rattle.std.proofs.Common.{sym, ◌∙◌}
use Rattle.serde_json.specs.View.{view, members_view}
use Rattle.serde_json.proofs.Views.{members_len-members_view}
use Rattle.tl_commands.proofs.ScriptLemmas.{both_found, both_other}
use Rattle.tl_commands.proofs.script.both_of_value.Goals as goal

pub returns-then-len-ne2 : goal.returns-then-len-ne2
returns-then-len-ne2 c =
    let entries = c.in_ok-as_object.field-0.now.entries in
    sym (both_other c.args.tasks.now (view c.args.value.now) (members_view entries) (sym c.in_ok-as_object.ensures) (λ two. c.if-len-ne2.true (c.len.ensures.len ∙ sym (members_len-members_view entries) ∙ two)))

pub returns : goal.returns
returns c =
    let entries = c.in_ok-as_object.field-0.now.entries in
    sym (both_found c.args.tasks.now (view c.args.value.now) (members_view entries) _ _ (sym c.in_ok-as_object.ensures) (members_len-members_view entries ∙ sym c.len.ensures.len ∙ c.if-len-ne2.false) (sym c.in_ok-get.ensures) (sym c.in_ok-get-2.ensures))
