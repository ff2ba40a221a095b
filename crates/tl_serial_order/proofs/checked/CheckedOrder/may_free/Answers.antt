use Rattle.std.proofs.Common.{◌≡◌, sym, ◌∙◌}
use Rattle.tl_tree_locking.specs.Holders.{holder_of}
use Rattle.tl_tree_locking.proofs.Holders.{held-holder, holder-held}
use Rattle.tl_serial_order.proofs.CheckedLemmas.{is_this, holder_open}
use Rattle.tl_serial_order.proofs.checked.CheckedOrder.may_free.Goals as goal

pub returns : goal.returns
returns c parents past left checked =
    let legal = checked.legal in
    let call = c.args.call in
    let node = c.args.node in
    let is : c.holder.result ≡ holder_of past node = c.holder.ensures ∙ checked.kept.holders node c.requires in
    let test = is_this c.eq.result c.holder.result call c.eq.ensures in (
      λ t. let holds = sym is ∙ test.0 t in record { may_happen = holder_open parents past legal call node holds; permitted = holder-held parents past legal call node holds },
      λ k. test.1 (is ∙ held-holder parents past legal call node k.permitted),
    )
