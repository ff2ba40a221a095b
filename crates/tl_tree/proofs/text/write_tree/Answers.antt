use Rattle.std.proofs.Common.{◌≤◌, Ok, ap, ◌∙◌, arith}
use Rattle.serde_json.specs.Data.{depth}
use Rattle.serde_json.specs.Read.{max_depth}
use Rattle.serde_json.specs.Written.{has_float, compact_text}
use Rattle.serde_json.specs.View.{view}
use Rattle.tl_tree.specs.Reading.{tree_of_read}
use Rattle.tl_tree.proofs.EitherWidth.{tree_of_wide}
use Rattle.tl_tree.proofs.Texts.{tree_whole, tree_shallow, tree_written}
use Rattle.tl_tree.proofs.text.write_tree.Goals as goal

pub returns-clause-text : goal.returns-clause-text
returns-clause-text c =
    let tree = c.args.tree.now in
    let is = c.in_ok-value.ensures.value in
    c.in_ok-to_string.ensures.text (ap has_float is ∙ tree_whole tree) ∙ ap compact_text is ∙ tree_written tree

pub returns-clause-reads_back : goal.returns-clause-reads_back
returns-clause-reads_back c = λ limit few.
    let tree = c.args.tree.now in
    let is = c.in_ok-value.ensures.value in
    let deep = ap depth is in
    let shallow : depth (view c.in_ok-value.value) ≤ max_depth = omega (arith, deep, tree_shallow tree) in
    ap (tree_of_read limit) (c.in_ok-to_string.ensures.reads_back shallow) ∙ tree_of_wide limit (view c.in_ok-value.value) (Ok tree) (c.in_ok-value.ensures.reads_back limit few) (λ e. cc)
