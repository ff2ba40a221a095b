use Rattle.std.proofs.Common.{◌≡◌, [], ◌∷◌, Some, option_and_then, sym, ap, ◌∙◌, subst, arith}
use Rattle.json.specs.Json.{parse_map, value}
use Rattle.json.specs.Lex.{tokens}
use Rattle.json.specs.Reads.{token_of}
use Rattle.serde_json.specs.Data.{object}
use Rattle.serde_json.specs.Read.{of_json, converted, read}
use Rattle.tl_trail.specs.Raw.{IsHalfRead}
use Rattle.tl_trail.specs.Reading.{form_of_data}
use Rattle.tl_trail.specs.TrailTokens.{AreOfTrail}
use Rattle.tl_tokens.proofs.TokenLemmas.{if_none, object_begins, whole}
use Rattle.tl_trail.proofs.TrailTokenLemmas.{text_members}
use Rattle.tl_trail.proofs.tokens.raw_of_tokens.Goals as goal

pub returns : goal.returns
returns c =
    let text = c.args.text.now in
    let s = c.next.new.self in
    let rest = c.trail_members.new.reader in
    let first = c.in-Some-BeginObject.ensures.value ∙ ap (λ k. token_of k ∷ s) c.in-Some-BeginObject.field-0-is in
    let all = sym c.in_ok-reader.ensures.ok ∙ first in
    let got : AreOfTrail c.args.limit s c.in-Some.found.0 c.in-Some.found.1 rest = rw c.in-Some.is at c.in_ok-found.ensures in
    let over : rest ≡ [] = (if_none _ c.next-2.result c.if-is_some.ensures c.next-2.ensures.value).0 in
    let is_value = ap (λ ts. converted of_json (value 127 ts)) all ∙ object_begins 127 s (omega arith) ∙ ap (parse_map object) (text_members s rest got.found got.are_members) ∙ ap (λ r. Some (object got.found, r)) over in
    let is : read text ≡ Some (object got.found) = whole (value 127 (tokens text)) (object got.found) is_value in
    subst (λ o. IsHalfRead c.args.limit (option_and_then form_of_data o) c.in-Some.found.0 c.in-Some.found.1) (sym is) got.half_read
