use Rattle.std.proofs.Common.{◌≡◌, ◌<◌, ℕ, List, Option, None, false, length, get_or, replicate, sym, ap, ◌∙◌, arith}
use Rattle.std.proofs.lemmas.List.{get_or-replicate, length-replicate}
use Rattle.tl_serial_order.proofs.Marks.{trues-false, get_or-all_false}
use Rattle.tl_serial_order.specs.Kept.{count_held}
use Rattle.tl_serial_order.proofs.HeldNodes.{count_held-none}
use Rattle.tl_serial_order.proofs.kept.KeptOrder.new.Goals as goal

-- each entry of a list of Nones is None
none_at : (entries : List (Option ℕ)) (n x : ℕ) → entries ≡ replicate n None → x < length entries → get_or entries x None ≡ None
none_at entries n x are inside =
    let size : length entries ≡ n = ap length are ∙ length-replicate n None in
    ap (λ l. get_or l x None) are ∙ get_or-replicate n x None None (omega (arith, inside, size))

pub invariant_of-result : goal.invariant_of-result
invariant_of-result c =
    let column = c.in_ok-standing.ensures.items_if_clones_equal (λ _ e. e) in
    let none = c.in_ok-order.ensures.none in
    let size = length-replicate c.args.calls false in
    rw (none, column) (
      record { distinct = tt; standing = λ d. sym (get_or-all_false c.args.calls d) },
      sym (trues-false c.args.calls),
      omega (arith, size, c.in_ok-order.ensures.capacity),
      sym (ap count_held c.in_ok-holders.ensures ∙ count_held-none c.args.nodes),
      omega (arith, size, c.ranges.calls),
    )

pub returns-clause-kept : goal.returns-clause-kept
returns-clause-kept c parents = record {
  order = c.in_ok-order.ensures.none;
  holders = λ x inside. none_at c.in_ok-holders.holders c.args.nodes x c.in_ok-holders.ensures inside;
  under = λ x inside. none_at c.in_ok-under.under c.args.nodes x c.in_ok-under.ensures inside;
}
