use Rattle.std.proofs.Common.{ap, ◌∙◌, rules, pos, map, get_or, arith}
use Rattle.std.specs.Prelude.{FitsSigned}
use Rattle.std.specs.Int.{w64}
use Rattle.std.proofs.lemmas.Int.{to_z-of_z}
use Rattle.std.proofs.lemmas.List.{take_all}
use Rattle.std.proofs.lemmas.List.Elements.{All-more}
use Rattle.serde_json.specs.Data.{array}
use Rattle.serde_json.specs.View.{view, items_of}
use Rattle.serde_json.proofs.Views.{view-Array}
use Rattle.tl_tree.specs.Writing.{integer_data}
use Rattle.tl_tree.proofs.Items.{views_more}
use Rattle.tl_tree.proofs.value.integers_to_value.Goals as goal

pub returns-clause-value : goal.returns-clause-value
returns-clause-value c =
    view-Array c.loop-integer.items ∙ ap (λ ds. array (items_of ds)) (c.loop-integer.invariant.0 ∙ ap (map integer_data) (take_all c.loop-integer.integer-index c.args.integers.now (omega arith)))

pub loop-integer-preserved : goal.loop-integer-preserved
loop-integer-preserved c =
    let integers = c.args.integers.now in
    let i = c.loop-integer.integer-index in
    let fits : FitsSigned w64 (get_or integers i (pos 0)) = search rules in
    let made = simp to_z-of_z at c.integer_to_value.ensures.value in (
      ap (map view) c.in_ok-push.ensures.items ∙ views_more integer_data c.loop-integer.items.items c.integer_to_value.result integers i (pos 0) (omega arith) c.loop-integer.invariant.0 made,
      All-more (FitsSigned w64) integers i (pos 0) (omega arith) c.loop-integer.invariant.1 fits,
    )
