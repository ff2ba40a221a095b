use Rattle.std.proofs.Common.{sym, ◌∙◌}
use Rattle.serde_json.specs.View.{view, members_view}
use Rattle.serde_json.proofs.Views.{members_len-members_view}
use Rattle.tl_trail.proofs.TextForms.{parts_found, parts_other}
use Rattle.tl_trail.proofs.raw.members_of_value.Goals as goal

pub returns-then-count-ne5 : goal.returns-then-count-ne5
returns-then-count-ne5 c =
    let entries = c.in_ok-as_object.field-0.now.entries in
    sym (parts_other (view c.args.value.now) (members_view entries) (sym c.in_ok-as_object.ensures) (λ five. c.if-count-ne5.true (c.len-count.ensures.len ∙ sym (members_len-members_view entries) ∙ five)))

pub returns : goal.returns
returns c =
    let entries = c.in_ok-as_object.field-0.now.entries in
    sym (parts_found (view c.args.value.now) (members_view entries) _ (sym c.in_ok-as_object.ensures) (members_len-members_view entries ∙ sym c.len-count.ensures.len ∙ c.if-count-ne5.false)
    (sym c.in_ok-get.ensures) (sym c.in_ok-get-2.ensures) (sym c.in_ok-get-3.ensures) (sym c.in_ok-get-4.ensures) (sym c.in_ok-get-5.ensures))
