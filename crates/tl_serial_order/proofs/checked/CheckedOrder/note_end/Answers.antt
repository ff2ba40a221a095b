use Rattle.std.proofs.Common.{true, length, sym, ◌∙◌, arith}
use Rattle.std.proofs.lemmas.List.{length-set}
use Rattle.std.proofs.lemmas.List.Elements.{All-cons}
use Rattle.tl_tree_locking.specs.declared.event.Event.TheVariants.{Done}
use Rattle.tl_tree_locking.specs.Nodes.{IsOfNodes}
use Rattle.tl_tree_locking.proofs.RulesLemmas.{legal_next}
use Rattle.tl_serial_order.specs.Checked.{calls_of}
use Rattle.tl_serial_order.proofs.CheckedLemmas.{holding-done, done-done}
use Rattle.tl_serial_order.proofs.checked.CheckedOrder.note_end.Goals as goal

pub returns-clause-checked : goal.returns-clause-checked
returns-clause-checked c past checked rules =
    let parents = c.args.shape.now in
    let o = c.args.self.now in
    let call = c.args.call in
    let even = checked.even in
    let here = c.requires.next.legal.event.call in
    let size = length-set o.done.items call true in
    record {
      even = record { holding = even.holding ∙ sym size; calls = c.end.ensures.calls ∙ even.calls ∙ sym size; size = c.end.ensures.size (length parents) even.size };
      inside = All-cons (IsOfNodes (length parents)) (Done call) past tt checked.inside;
      legal = legal_next parents (Done call) past rules tt checked.legal;
      kept = c.end.ensures.kept parents past checked.kept;
      admitted = checked.admitted;
      done = λ k lt. done-done (calls_of o) past call o.done.items here checked.done k (omega (arith, lt, size));
      holding = λ k lt. holding-done (calls_of o) past call o.holding.items checked.holding k (omega (arith, lt, size));
    }
