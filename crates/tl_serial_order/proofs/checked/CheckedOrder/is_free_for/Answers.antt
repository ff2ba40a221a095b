use Rattle.std.proofs.Common.{◌≡◌, sym, refl, ◌∙◌, None, Some}
use Rattle.tl_tree_locking.specs.Holders.{holder_of}
use Rattle.tl_tree_locking.proofs.Holders.{nobody_holds}
use Rattle.tl_tree_locking.proofs.RulesLemmas.{holder_apart}
use Rattle.tl_serial_order.proofs.checked.CheckedOrder.is_free_for.Goals as goal

pub returns-in-Some : goal.returns-in-Some
returns-in-Some c parents past found checked =
    let held_by : holder_of past c.args.node ≡ Some c.in-Some.holder =
    sym (checked.kept.holders c.args.node c.requires) ∙ sym c.holder.ensures ∙ c.in-Some.is in
    holder_apart parents past checked.legal c.args.call c.args.node c.in-Some.holder found held_by

pub returns-in-None : goal.returns-in-None
returns-in-None c parents past found checked =
    let held_by : holder_of past c.args.node ≡ None =
    sym (checked.kept.holders c.args.node c.requires) ∙ sym c.holder.ensures ∙ c.in-None.is in
    (λ _ d other. nobody_holds parents past checked.legal c.args.node held_by d, λ _. refl)
