use Rattle.std.proofs.Common.{map, ap, ◌∙◌, string_bytes}
use Rattle.std.proofs.lemmas.Result.{IfOk-weaker}
use Rattle.tl_table.specs.Chains.{calls_in}
use Rattle.tl_commands.specs.Closing.{IsClosing, orders_form, tree_after}
use Rattle.tl_commands.proofs.LineLemmas.{form_whole, two_lines_of}
use Rattle.tl_commands.proofs.closing.closing_lines.Goals as goal

pub returns-clause-ok : goal.returns-clause-ok
returns-clause-ok c =
    let es = c.args.chain.now in
    let b = c.args.has_epochs in
    let orders = map calls_in c.in-Ok.orders.items in
    let value_is = c.in_ok-value.ensures ∙ ap (λ os. orders_form b (map calls_in os)) c.deref.ensures.value in
    IfOk-weaker c.two_lines.result _ (λ s. IsClosing b es (string_bytes s))
    (λ s told. record {
      orders = orders;
      ordered = record { chain = c.requires; same = c.in-Ok.ensures.orders; serial = c.in-Ok.ensures.serial };
      same = two_lines_of _ (orders_form b orders) _ (tree_after es) (string_bytes s) value_is c.last_tree.ensures (form_whole b orders) told;
    })
    c.two_lines.ensures.ok
