use Rattle.std.proofs.Common.{◌++◌, codes, decimal, ap, ◌∙◌, string_bytes}
use Rattle.serde_json.specs.Data.{string}
use Rattle.serde_json.specs.Written.{compact_text}
use Rattle.tl_tree.specs.Writing.{integers_data}
use Rattle.tl_json.specs.Letters.{text_of}
use Rattle.tl_json.proofs.Texts.{pushed, node_whole}
use Rattle.tl_json.proofs.event.push_node.Goals as goal

pub returns-clause-text : goal.returns-clause-text
returns-clause-text c =
    let old = string_bytes c.args.text.now in
    let letter = compact_text (string (text_of c.args.letter)) in
    let call = decimal c.args.call in
    let node = decimal c.args.node in
    let fields = compact_text (integers_data c.args.fields.now) in
    let called = c.in_ok-push_str.ensures.bytes ∙ ap (λ l. l ++ codes ",") (c.in_ok-push_number.ensures ∙ ap (λ l. l ++ call) c.in_ok-push_letter.ensures) in
    let placed = c.in_ok-push_str-2.ensures.bytes ∙ ap (λ l. l ++ codes ",") (c.in_ok-push_number-2.ensures ∙ ap (λ l. l ++ node) called) in
    let recorded = c.in_ok-push_text.ensures.text ∙ ap (λ l. l ++ fields) placed in
    pushed c.push_str-3.result _ _ (codes "]") _ c.push_str-3.ensures.bytes (ap (λ l. l ++ codes "]") recorded ∙ node_whole old letter call node fields)
