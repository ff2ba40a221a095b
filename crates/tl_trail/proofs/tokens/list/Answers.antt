use Rattle.std.proofs.Common.{◌∷◌, map, refl, ap, ◌∙◌}
use Rattle.json.specs.Reads.{token_of}
use Rattle.tl_trail.specs.Tokens.{BeginsWithItems, member_depth}
use Rattle.tl_trail.proofs.TokenLemmas.{begins_list}
use Rattle.tl_trail.proofs.tokens.list.Goals as goal

pub returns : goal.returns
returns g c =
    let form_of = g.T.FromValue.form_of in
    let each = map g.T.FromValue.form c.in-Some.found.items in
    let is = c.in-Some-BeginArray.ensures.value ∙ ap (λ k. token_of k ∷ c.next.new.self) c.in-Some-BeginArray.field-0-is in
    let got : BeginsWithItems form_of c.next.new.self each c.each.new.reader = rw c.in-Some.is at c.in_ok-found.ensures in
    begins_list member_depth c.args.reader.now c.each.new.reader form_of c.next.new.self each is refl got
