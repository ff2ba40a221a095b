use Rattle.std.proofs.Common.{◌∙◌, sym}
use Rattle.std.specs.Cmp.Rules.{signed_items}
use Rattle.std.proofs.lemmas.Slice.Eq.{slice_eq-Decides}
use Rattle.tl_store.proofs.left.are_same_trees.Goals as goal

pub returns-then-is : goal.returns-then-is
returns-then-is c = λ same.
    let shapes = c.is.ensures.0 c.if-is.true in
    let records = (slice_eq-Decides signed_items c.records.result.now c.records-then-is.result.now c.eq.result c.eq.ensures).0 same in (
      sym c.shape.ensures.shape ∙ sym c.deref.ensures ∙ shapes ∙ c.deref-2.ensures ∙ c.shape-2.ensures.shape,
      sym c.records.ensures.records ∙ records ∙ c.records-then-is.ensures.records,
    )
