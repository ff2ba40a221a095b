use Rattle.std.proofs.Common.{◌≡◌, ◌<◌, ◌≤◌, [], ◌∷◌, length, sym, ap, ◌∙◌, arith}
use Rattle.json.specs.Reads.{token_of}
use Rattle.tl_trail.specs.ChainTokens.{BeginsWithTrails}
use Rattle.tl_tokens.proofs.TokenLemmas.{if_none}
use Rattle.tl_trail.proofs.ChainTokenLemmas.{text_chain}
use Rattle.tl_trail.proofs.chain.chain_in_order.Goals as goal

pub returns-clause-some : goal.returns-clause-some
returns-clause-some c =
    let text = c.args.text.now in
    let s = c.next.new.self in
    let rest = c.each_in_order.new.reader in
    let ts = c.in-Some.trails.items in
    let first = c.in-Some-BeginArray.ensures.value ∙ ap (λ k. token_of k ∷ s) c.in-Some-BeginArray.field-0-is in
    let got : BeginsWithTrails c.args.limit s ts rest = rw c.in-Some.is at c.in_ok-trails.ensures.some in
    let few : length ts ≤ 256 = rw c.in-Some.is at c.in_ok-trails.ensures.few in
    let over : rest ≡ [] = (if_none _ c.next-2.result c.if-is_some.ensures c.next-2.ensures.value).0 in
    let some : 0 < length ts = grind arith in
    text_chain c.args.limit text s rest (sym c.in_ok-reader.ensures.ok ∙ first) over ts got some few
