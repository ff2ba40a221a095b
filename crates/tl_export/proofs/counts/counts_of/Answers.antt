use Rattle.std.proofs.Common.{sym, ◌∙◌, subst}
use Rattle.tl_export.specs.Counts.{all_rows, AreInOrder}
use Rattle.tl_export.proofs.RowsLemmas.{ends_same, beginnings_same}
use Rattle.tl_export.proofs.counts.counts_of.Goals as goal
use Rattle.tl_export.proofs.counts.counts_of.Goals.{else-are_in_order-via-then-are_in_order+else-are_in_order-2, else-are_in_order-via-else-are_in_order}

pub returns-else-are_in_order-clause-again : goal.returns-else-are_in_order-clause-again
returns-else-are_in_order-clause-again c = λ has.
    let seals = c.args.seals.now in
    let marks = c.args.marks.now in
    let first = c.in_ok-first.first in
    let last = c.in_ok-last.last in
    let same_first = beginnings_same seals marks c.args.epoch has.first first has.beginning c.in_ok-first.ensures.beginning in
    let same_last = ends_same seals marks c.args.epoch has.last last has.end c.in_ok-last.ensures.end in
    let order : AreInOrder first last = subst (λ f. AreInOrder f last) same_first (subst (AreInOrder has.first) same_last has.order) in
    let inside : AreInOrder last (all_rows marks) = subst (λ l. AreInOrder l (all_rows marks)) same_last has.inside in
    elim c.else-are_in_order.branch [
      | else-are_in_order-via-then-are_in_order+else-are_in_order-2 w ↦
          sym w.if-are_in_order-2.false ∙ w.are_in_order-then-are_in_order.ensures.1 (subst (AreInOrder last) (sym w.all_counts.ensures) inside)
      | else-are_in_order-via-else-are_in_order w ↦ sym w.if-are_in_order.false ∙ c.are_in_order.ensures.1 order
    ]
