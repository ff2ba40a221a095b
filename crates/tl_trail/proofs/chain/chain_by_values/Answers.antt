use Rattle.std.proofs.Common.{◌≡◌, [], ◌∷◌, sym, ap, ◌∙◌}
use Rattle.json.specs.Reads.{token_of}
use Rattle.tl_tokens.proofs.TokenLemmas.{if_none}
use Rattle.tl_trail.proofs.ChainTokenLemmas.{text_listed}
use Rattle.tl_trail.proofs.chain.chain_by_values.Goals as goal

pub returns : goal.returns
returns c =
    let text = c.args.text.now in
    let s = c.next.new.self in
    let rest = c.each_by_value.new.reader in
    let first = c.in-Some-BeginArray.ensures.value ∙ ap (λ k. token_of k ∷ s) c.in-Some-BeginArray.field-0-is in
    let over : rest ≡ [] = (if_none _ c.next-2.result c.if-is_some.ensures c.next-2.ensures.value).0 in
    text_listed c.args.limit text s rest (sym c.in_ok-reader.ensures.ok ∙ first) over c.in_ok-listed.listed c.in_ok-listed.ensures
