use Rattle.std.proofs.Common.{◌+◌, ◌<◌, length, ap, ◌∙◌, arith}
use Rattle.std.proofs.lemmas.List.{get_or_read, length-set}
use Rattle.std.proofs.lemmas.List.Elements.{All-cons}
use Rattle.tl_tree_locking.specs.declared.event.Event.TheVariants.{Lock}
use Rattle.tl_tree_locking.specs.Nodes.{IsOfNodes}
use Rattle.tl_tree_locking.proofs.RulesLemmas.{legal_next}
use Rattle.tl_serial_order.specs.Checked.{calls_of}
use Rattle.tl_serial_order.proofs.CheckedLemmas.{lock_room, holding-lock}
use Rattle.tl_serial_order.proofs.checked.CheckedOrder.note_lock.Goals as goal

pub overflow_add-index_mut : goal.overflow_add-index_mut
overflow_add-index_mut c =
    let found = c.requires.next.0 in
    let next = c.requires.next.1 in
    let parents = c.args.shape.now in
    let items = c.args.self.now.holding.items in
    let e = Lock c.args.node c.args.call found in
    let here = next.legal.event.call in
    let size = next.checked.even.holding in
    let read = get_or_read items c.args.call c.index_mut.result.now (omega (arith, here, size)) c.index_mut.ensures.value 0 in
    let count = next.checked.holding c.args.call here in
    let legal = legal_next parents e next.past next.legal.rules next.legal.apart next.checked.legal in
    let inside = All-cons (IsOfNodes (length parents)) e next.past next.legal.event.node next.checked.inside in
    let room = lock_room parents c.requires.tree next.past c.args.call c.args.node found legal inside in
    omega (arith, read, count, room)

pub returns-clause-checked : goal.returns-clause-checked
returns-clause-checked c past found checked rules apart =
    let next = c.requires.next.1 in
    let parents = c.args.shape.now in
    let o = c.args.self.now in
    let holding = o.holding.items in
    let call = c.args.call in
    let e = Lock c.args.node call found in
    let even = checked.even in
    let here = next.legal.event.call in
    let size = even.holding in
    let there : call < length holding = omega (arith, here, size) in
    let count = get_or_read holding call c.index_mut.result.now there c.index_mut.ensures.value 0 in
    let legal = legal_next parents e past rules apart checked.legal in
    record {
      even = record { holding = length-set holding call (c.index_mut.result.now + 1) ∙ even.holding; calls = c.lock.ensures.calls ∙ even.calls; size = c.lock.ensures.size };
      inside = All-cons (IsOfNodes (length parents)) e past next.legal.event.node checked.inside;
      legal = legal;
      kept = c.lock.ensures.kept past found checked.kept legal;
      admitted = checked.admitted;
      done = checked.done;
      holding = holding-lock (calls_of o) past call c.args.node found holding there checked.holding (c.index_mut.result.now + 1) (ap (λ k. k + 1) count);
    }
