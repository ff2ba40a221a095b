use Rattle.std.proofs.Common.{◌≡◌, ◌++◌, ◌∷◌, [], map, ap, ◌∙◌, string_bytes}
use Rattle.std.proofs.lemmas.Result.{IfOk-weaker}
use Rattle.serde_json.specs.Written.{compact_text, has_float}
use Rattle.tl_json.specs.Lists.{orders_data}
use Rattle.tl_table.specs.Chains.{calls_in}
use Rattle.tl_commands.proofs.LineLemmas.{orders_whole}
use Rattle.tl_commands.proofs.auditing.orders_line.Goals as goal

pub returns : goal.returns
returns c =
    let orders = map calls_in c.args.orders.now in
    let is = c.in_ok-orders.ensures in
    IfOk-weaker c.line_of.result _ (λ s. string_bytes s ≡ compact_text (orders_data orders) ++ 10 ∷ [])
    (λ s told. told (ap has_float is ∙ orders_whole orders) ∙ ap (λ d. compact_text d ++ 10 ∷ []) is)
    c.line_of.ensures
