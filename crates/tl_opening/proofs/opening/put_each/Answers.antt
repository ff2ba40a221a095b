use Rattle.std.proofs.Common.{◌≡◌, ◌+◌, ◌∷◌, ◌++◌, [], take, sym, ap, ◌∙◌}
use Rattle.std.proofs.lemmas.List.{map-append, take_more}
use Rattle.tl_opening.specs.Opening.{records_left, records_behind, epoch_of, epochs_of}
use Rattle.tl_opening.proofs.BehindLemmas.{tree_of, behind-more}
use Rattle.tl_opening.proofs.opening.put_each.Goals as goal

pub loop-frees-preserved : goal.loop-frees-preserved
loop-frees-preserved c =
    let start = c.args.tree.now in
    let left = c.args.left.now in
    let i = c.loop-frees.frees-index in
    let item = c.frees-item.result in
    let before = epochs_of (take i left) in
    let one_more = take_more left i item c.loop-frees-test.true in
    let all : epochs_of (take (i + 1) left) ≡ before ++ epoch_of item ∷ [] = ap epochs_of one_more ∙ map-append epoch_of (take i left) _ ∙ ap (λ x. before ++ epoch_of x ∷ []) (sym c.frees-item.is) in
    c.put_into.ensures ∙ ap (λ ls. tree_of c.loop-frees.tree.parents (records_left c.loop-frees.tree.records ls)) c.deref.ensures
    ∙ behind-more start c.loop-frees.tree before (epoch_of item) c.loop-frees.invariant
    ∙ ap (λ es. tree_of start.parents (records_behind start.records es)) (sym all)
