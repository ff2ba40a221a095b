use Rattle.std.proofs.Common.{◌≡◌, IfOk, ap, ◌∙◌, rules}
use Rattle.std.specs.Prelude.{All}
use Rattle.std.proofs.lemmas.Result.{IfOk-weaker}
use Rattle.serde_json.specs.View.{view}
use Rattle.tl_tree.specs.declared.record.Width.TheVariants.{Wide}
use Rattle.tl_tree.specs.Reading.{tree_at}
use Rattle.tl_tree.specs.Trees.{IsRecord}
use Rattle.tl_tree.specs.Writing.{tree_data}
use Rattle.tl_tree.proofs.RoundTrip.{tree_back}
use Rattle.tl_tree.proofs.value.tree_to_value.Goals as goal

pub returns-clause-reads_back : goal.returns-clause-reads_back
returns-clause-reads_back c =
    let tree = c.args.tree.now in
    let value : IfOk c.parts_to_value.result (λ v. view v ≡ tree_data tree) = search rules in
    let each : All IsRecord tree.records = rw c.records.ensures.records at c.in_ok-records.ensures.each in
    IfOk-weaker c.parts_to_value.result _ _ (λ v is limit few. ap (tree_at limit Wide) is ∙ tree_back limit tree few c.shape.ensures.whole each) value
