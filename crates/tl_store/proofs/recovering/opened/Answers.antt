use Rattle.std.proofs.Common.{◌≡◌, ◌∙◌, length, sym, ap}
use Rattle.std.proofs.lemmas.List.{length-map}
use Rattle.tl_rows.specs.Rows.{fields_in}
use Rattle.tl_store.proofs.recovering.opened.Goals as goal

pub returns-in-Ok-clause-again : goal.returns-in-Ok-clause-again
returns-in-Ok-clause-again c = λ v reached rows.
    let many : length c.args.stored.now.records.items ≡ length v.parents = sym (length-map c.args.stored.now.records.items fields_in) ∙ ap length rows.records ∙ reached.sound.size in
    let shape = c.in_ok-tree.ensures.again v.parents reached.sound.tree (rw c.as_slice-2.ensures.value rows.parents) (rw c.as_slice-3.ensures.value many) in
    let procedures = c.in_ok-procedures.ensures.again rows.all rows.allowed rows.accepted (rw c.as_slice.ensures.value rows.procedures) ∙ sym rows.latest_are in
    (ap (λ s. s.seen.parents) c.in-Ok.ensures.ok ∙ shape, ap (λ s. s.seen.procedures) c.in-Ok.ensures.ok ∙ procedures)
