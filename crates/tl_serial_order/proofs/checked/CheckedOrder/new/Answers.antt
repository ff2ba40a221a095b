use Rattle.std.proofs.Common.{◌≡◌, false, length, get_or, refl, sym, ap, ◌∙◌, subst, arith, replicate}
use Rattle.std.proofs.lemmas.List.{length-replicate, get_or-replicate}
use Rattle.tl_serial_order.specs.Kept.{IsOfSize}
use Rattle.tl_serial_order.proofs.checked.CheckedOrder.new.Goals as goal

pub returns-clause-calls : goal.returns-clause-calls
returns-clause-calls c =
    let calls = c.args.calls in
    let done : c.in_ok-vec.field-0.items ≡ replicate calls false = c.in_ok-vec.ensures.items_if_clones_equal (λ _ e. e) in
    ap length done ∙ length-replicate calls false

pub returns-clause-checked : goal.returns-clause-checked
returns-clause-checked c parents nodes_are =
    let calls = c.args.calls in
    let done : c.in_ok-vec.field-0.items ≡ replicate calls false = c.in_ok-vec.ensures.items_if_clones_equal (λ _ e. e) in
    let holding : c.in_ok-vec-2.field-0.items ≡ replicate calls 0 = c.in_ok-vec-2.ensures.items_if_clones_equal (λ _ e. e) in
    let done_count : length c.in_ok-vec.field-0.items ≡ calls = ap length done ∙ length-replicate calls false in
    let holding_count : length c.in_ok-vec-2.field-0.items ≡ calls = ap length holding ∙ length-replicate calls 0 in
    record {
      even = record {
        holding = holding_count ∙ sym done_count;
        calls = c.in_ok-new.ensures.calls ∙ sym done_count;
        size = subst (IsOfSize c.in_ok-new.field-0) (sym nodes_are) c.in_ok-new.ensures.size;
      };
      inside = λ k d h. absurd (omega arith);
      legal = record { obeys = λ c. tt; apart = tt; in_turn = tt };
      kept = c.in_ok-new.ensures.kept parents;
      admitted = refl;
      done = λ k lt. ap (λ l. get_or l k false) done ∙ get_or-replicate calls k false false (omega (arith, lt, done_count));
      holding = λ k lt. let none : get_or c.in_ok-vec-2.field-0.items k 0 ≡ 0 = ap (λ l. get_or l k 0) holding ∙ get_or-replicate calls k 0 0 (omega (arith, lt, done_count)) in omega (arith, none);
    }
