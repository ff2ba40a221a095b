use Rattle.std.proofs.Common.{◌≡◌, ◌++◌, ◌∷◌, [], ap, ◌∙◌, string_bytes}
use Rattle.std.proofs.lemmas.Result.{IfOk-weaker}
use Rattle.serde_json.specs.Written.{compact_text, has_float}
use Rattle.tl_json.specs.Lists.{order_data}
use Rattle.tl_commands.proofs.LineLemmas.{order_whole}
use Rattle.tl_commands.proofs.auditing.order_line.Goals as goal

pub returns : goal.returns
returns c =
    let order = c.args.order.now.calls in
    let is = c.in_ok-order.ensures ∙ ap order_data c.calls.ensures.same in
    IfOk-weaker c.line_of.result _ (λ s. string_bytes s ≡ compact_text (order_data order) ++ 10 ∷ [])
    (λ s told. told (ap has_float is ∙ order_whole order) ∙ ap (λ d. compact_text d ++ 10 ∷ []) is)
    c.line_of.ensures
