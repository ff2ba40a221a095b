use Rattle.std.proofs.Common.{◌∙◌, ap}
use Rattle.tl_syntax.specs.declared.parsed.StatementForm.TheVariants as T
use Rattle.tl_lowering.specs.Drafts.{opening_value, opening_nodes}
use Rattle.tl_lowering.proofs.lowering.Lowering.head.Goals as goal

pub returns-in_ok-register-in-Let-clause-named : goal.returns-in_ok-register-in-Let-clause-named
returns-in_ok-register-in-Let-clause-named c =
    let i = c.in-Act in
    let r = c.in_ok-register-in-Let in
    opening_value i.field-1 (i.is ∙ ap (λ a. T.Act a i.field-1) c.in-Let.is) r.ensures.value.next r.ensures.value.is_new r.ensures.value.room r.ensures.named r.ensures.value.temporaries

pub returns-in_ok-place-in-Lock-clause-named : goal.returns-in_ok-place-in-Lock-clause-named
returns-in_ok-place-in-Lock-clause-named c =
    let i = c.in-Act in
    opening_nodes i.field-1 (i.is ∙ ap (λ a. T.Act a i.field-1) c.in-Lock.is) c.in_ok-place-in-Lock.ensures.named
