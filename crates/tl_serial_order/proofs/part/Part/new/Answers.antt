use Rattle.std.proofs.Common.{[], sym, refl, subst}
use Rattle.tl_serial_order.specs.Part.{IsPart, is_held}
use Rattle.tl_serial_order.proofs.Marks.{shown, trues-false, all_untouched, shows_nothing}
use Rattle.tl_serial_order.proofs.part.Part.new.Goals as goal

pub invariant_of-result : goal.invariant_of-result
invariant_of-result c =
    let untouched = c.in_ok-vec.ensures.items_if_clones_equal (λ _ e. e) in
    let held = all_untouched is_held c.args.nodes refl in
    rw (untouched, held) (sym (trues-false c.args.nodes))

pub returns-clause-none : goal.returns-clause-none
returns-clause-none c = subst (λ ms. IsPart (shown ms) []) (sym (c.in_ok-vec.ensures.items_if_clones_equal (λ _ e. e))) (shows_nothing c.args.nodes)
