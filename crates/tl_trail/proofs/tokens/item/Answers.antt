use Rattle.std.proofs.Common.{Some, option_map, sym, ap, ◌∙◌}
use Rattle.serde_json.specs.View.{view}
use Rattle.tl_tokens.specs.Tokens.{BeginsWith}
use Rattle.tl_trail.specs.Tokens.{item_depth}
use Rattle.tl_tokens.proofs.TokenLemmas.{stands_for}
use Rattle.tl_trail.proofs.tokens.item.Goals as goal

pub returns : goal.returns
returns g c =
    let form = g.T.FromValue.form in
    let form_of = g.T.FromValue.form_of in
    let d = view c.in-Some.value in
    let got : BeginsWith Some item_depth c.args.reader.now d c.value.new.reader = rw c.in-Some.is at c.in_ok-value.ensures in
    stands_for item_depth c.args.reader.now c.value.new.reader form_of d (form c.in-Some-2.found) got (sym c.in_ok-found.ensures ∙ ap (option_map form) c.in-Some-2.is)
