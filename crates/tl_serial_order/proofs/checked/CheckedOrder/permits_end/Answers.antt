use Rattle.std.proofs.Common.{◌≡◌, ◌+◌, sym, ap, ◌∙◌, arith}
use Rattle.std.proofs.lemmas.Bool.{eq-eqb, eqb-true}
use Rattle.std.proofs.lemmas.List.{get_or_read}
use Rattle.tl_tree_locking.specs.Actions.{lock_count, free_count}
use Rattle.tl_tree_locking.specs.History.{part_of}
use Rattle.tl_tree_locking.proofs.Counts.{counts-none_held, none_held-counts}
use Rattle.tl_serial_order.proofs.checked.CheckedOrder.permits_end.Goals as goal

pub returns : goal.returns
returns c parents past checked =
    let call = c.args.call in
    let each = checked.legal.obeys call in
    let items = c.args.self.now.holding.items in
    let read = get_or_read items call c.index.result.now (omega (arith, c.requires.even, c.requires.call)) c.index.ensures 0 in
    let count : lock_count (part_of call past) ≡ free_count (part_of call past) + c.index.result.now =
    checked.holding call c.requires.call ∙ ap (λ n. free_count (part_of call past) + n) (sym read) in (
      λ t. let none = eqb-true c.index.result.now 0 t in counts-none_held parents (part_of call past) each (omega (arith, count, none)),
      λ none. let even = none_held-counts parents (part_of call past) each none in eq-eqb c.index.result.now 0 (omega (arith, count, even)),
    )
