use Rattle.std.proofs.Common.{length, sym, subst}
use Rattle.tl_serial_order.specs.Checked.{IsEventOf}
use Rattle.tl_audit.proofs.watch.Watch.note.Goals as goal

pub note-requires-clause-next : goal.note-requires-clause-next
note-requires-clause-next c =
    let n = c.requires.next in
    record {
      past = n.past;
      checked = n.shows.checked;
      legal = record {
        event = subst (λ k. IsEventOf (length c.args.shape.now) k c.args.event.now) (sym n.shows.calls_are) n.event;
        rules = n.right.0.rules;
        apart = n.right.0.apart;
      };
    }
