use Rattle.std.proofs.Common.{◌≡◌, ◌+◌, ◌-◌, ◌<◌, length, get_or, ◌∙◌, arith}
use Rattle.std.proofs.lemmas.List.{get_or_read, length-set}
use Rattle.std.proofs.lemmas.List.Elements.{All-cons}
use Rattle.tl_tree_locking.specs.declared.event.Event.TheVariants.{Free}
use Rattle.tl_tree_locking.specs.Nodes.{IsOfNodes}
use Rattle.tl_tree_locking.proofs.RulesLemmas.{legal_next}
use Rattle.tl_serial_order.specs.Checked.{calls_of}
use Rattle.tl_serial_order.proofs.CheckedLemmas.{holds_one, holding-free}
use Rattle.tl_serial_order.proofs.checked.CheckedOrder.note_free.Goals as goal

pub overflow_sub-index_mut : goal.overflow_sub-index_mut
overflow_sub-index_mut c =
    let left = c.requires.next.0 in
    let next = c.requires.next.1 in
    let items = c.args.self.now.holding.items in
    let here = next.legal.event.call in
    let size = next.checked.even.holding in
    let read = get_or_read items c.args.call c.index_mut.result.now (omega (arith, here, size)) c.index_mut.ensures.value 0 in
    let count = next.checked.holding c.args.call here in
    let one = holds_one c.args.shape.now next.past c.args.call c.args.node left next.checked.legal next.legal.rules in
    omega (arith, read, count, one)

pub returns-clause-checked : goal.returns-clause-checked
returns-clause-checked c past left checked rules =
    let next = c.requires.next.1 in
    let parents = c.args.shape.now in
    let o = c.args.self.now in
    let holding = o.holding.items in
    let call = c.args.call in
    let node = c.args.node in
    let e = Free node call left in
    let even = checked.even in
    let here = next.legal.event.call in
    let size = even.holding in
    let there : call < length holding = omega (arith, here, size) in
    let value = get_or_read holding call c.index_mut.result.now there c.index_mut.ensures.value 0 in
    let count = checked.holding call here in
    let one = holds_one parents past call node left checked.legal rules in
    let fewer : c.index_mut.result.now - 1 + 1 ≡ get_or holding call 0 = omega (arith, value, count, one) in
    record {
      even = record { holding = length-set holding call (c.index_mut.result.now - 1) ∙ even.holding; calls = c.free.ensures.calls ∙ even.calls; size = c.free.ensures.size (length parents) even.size };
      inside = All-cons (IsOfNodes (length parents)) e past next.legal.event.node checked.inside;
      legal = legal_next parents e past rules tt checked.legal;
      kept = c.free.ensures.kept parents past call left checked.kept;
      admitted = checked.admitted;
      done = checked.done;
      holding = holding-free (calls_of o) past call node left holding there checked.holding (c.index_mut.result.now - 1) fewer;
    }
