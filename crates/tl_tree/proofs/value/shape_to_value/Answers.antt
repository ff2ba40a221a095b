use Rattle.std.proofs.Common.{pos, map, sym, ap, ◌∙◌, arith}
use Rattle.std.proofs.lemmas.List.{take_all}
use Rattle.serde_json.specs.Data.{array}
use Rattle.serde_json.specs.View.{items_of}
use Rattle.serde_json.proofs.Views.{view-Array}
use Rattle.tl_tree.specs.Writing.{integer_data}
use Rattle.tl_tree.proofs.Texts.{map-map}
use Rattle.tl_tree.proofs.value.shape_to_value.Goals as goal

pub returns : goal.returns
returns c =
    let shape = c.args.shape.now in
    view-Array c.loop-node.items
    ∙ ap (λ ds. array (items_of ds)) (c.loop-node.invariant ∙ ap (map (λ p. integer_data (pos p))) (take_all c.loop-node.node shape (omega arith)) ∙ sym (map-map integer_data pos shape))
