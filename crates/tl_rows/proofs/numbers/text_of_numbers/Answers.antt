use Rattle.std.proofs.Common.{◌≤◌, option_and_then, ap, ◌∙◌, arith}
use Rattle.serde_json.specs.Data.{depth}
use Rattle.serde_json.specs.Read.{max_depth}
use Rattle.serde_json.specs.Written.{has_float, compact_text}
use Rattle.serde_json.specs.View.{view}
use Rattle.tl_tree.specs.Reading.{integers_of}
use Rattle.tl_tree.proofs.RoundTrip.{integers_back}
use Rattle.tl_tree.proofs.Texts.{integers_whole, integers_shallow}
use Rattle.tl_rows.proofs.numbers.text_of_numbers.Goals as goal

pub returns-clause-text : goal.returns-clause-text
returns-clause-text c =
    let is = c.in_ok-value.ensures.value in
    c.in_ok-to_string.ensures.text (ap has_float is ∙ integers_whole c.args.numbers.now) ∙ ap compact_text is

pub returns-clause-reads_back : goal.returns-clause-reads_back
returns-clause-reads_back c =
    let is = c.in_ok-value.ensures.value in
    let deep = ap depth is in
    let shallow : depth (view c.in_ok-value.value) ≤ max_depth = omega (arith, deep, integers_shallow c.args.numbers.now) in
    ap (option_and_then integers_of) (c.in_ok-to_string.ensures.reads_back shallow) ∙ ap integers_of is ∙ integers_back c.args.numbers.now c.in_ok-value.ensures.fit
