use Rattle.std.proofs.Common.{◌≡◌, [], Some, sym, ap, ◌∙◌}
use Rattle.json.specs.Json.{value}
use Rattle.json.specs.Lex.{tokens}
use Rattle.serde_json.specs.Read.{of_json, converted}
use Rattle.serde_json.specs.View.{view}
use Rattle.tl_tokens.specs.Tokens.{BeginsWith}
use Rattle.tl_tokens.proofs.TokenLemmas.{if_none, value_of, whole}
use Rattle.tl_tokens.proofs.tokens.read_whole.Goals as goal

pub returns : goal.returns
returns c =
    let text = c.args.text.now in
    let rest = c.value.new.reader in
    let v = c.in-Some.found in
    let got : BeginsWith Some 127 c.in_ok-reader.reader (view v) rest = rw c.in-Some.is at c.in_ok-found.ensures in
    let over : rest ≡ [] = (if_none _ c.next.result c.if-is_some.ensures c.next.ensures.value).0 in
    let is_value = ap (λ ts. converted of_json (value 127 ts)) (sym c.in_ok-reader.ensures.ok) ∙ value_of 127 c.in_ok-reader.reader rest (view v) got ∙ ap (λ r. Some (view v, r)) over in
    whole (value 127 (tokens text)) (view v) is_value
