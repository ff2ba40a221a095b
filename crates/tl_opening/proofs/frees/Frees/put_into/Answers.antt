use Rattle.std.proofs.Common.{◌≡◌, ◌+◌, [], get_or, take, sym, ◌∙◌, subst}
use Rattle.tl_tree.specs.Records.{put_record}
use Rattle.tl_opening.specs.declared.frees.Left.{Left}
use Rattle.tl_opening.specs.Opening.{records_left}
use Rattle.tl_opening.proofs.BehindLemmas.{tree_of, put-more}
use Rattle.tl_opening.proofs.frees.Frees.put_into.Goals as goal

pub loop-left-preserved : goal.loop-left-preserved
loop-left-preserved c =
    let start = c.args.tree.now in
    let i = c.loop-left.left-index in
    let lefts = c.deref-left-items.result.now in
    let none : Left = record { node = 0; fields = [] } in
    let left = get_or lefts i none in
    let whose : lefts ≡ c.args.self.now = c.deref-left-items.ensures.value ∙ c.self.view_is in
    let so_far = subst (λ ls. c.loop-left.tree ≡ tree_of start.parents (records_left start.records (take i ls))) (sym whose) c.loop-left.invariant in
    let more = put-more start c.loop-left.tree lefts i none c.loop-left-test.true so_far in
    c.put.ensures
    ∙ subst (λ ls. tree_of c.loop-left.tree.parents (put_record c.loop-left.tree.records left.node left.fields) ≡ tree_of start.parents (records_left start.records (take (i + 1) ls))) whose more
