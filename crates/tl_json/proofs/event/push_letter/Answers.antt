use Rattle.std.proofs.Common.{◌++◌, codes, ap, ◌∙◌, string_bytes}
use Rattle.tl_json.specs.Letters.{text_of}
use Rattle.tl_json.proofs.Texts.{pushed, letter_pushed}
use Rattle.tl_json.proofs.event.push_letter.Goals as goal

pub returns : goal.returns
returns c =
    let old = string_bytes c.args.text.now in
    let letter = text_of c.args.letter in
    let begun = c.in_ok-push_str.ensures.bytes in
    let named = c.in_ok-push_str-2.ensures.bytes ∙ ap (λ l. l ++ c.as_str.result.now) begun ∙ ap (λ l. (old ++ codes "[\"") ++ l) c.as_str.ensures in
    pushed c.push_str-3.result _ _ (codes "\",") _ c.push_str-3.ensures.bytes (ap (λ l. l ++ codes "\",") named ∙ letter_pushed old c.args.letter)
