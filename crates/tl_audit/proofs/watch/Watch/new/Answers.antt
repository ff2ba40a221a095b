use Rattle.std.proofs.Common.{rules, ◌≡◌, length, sym, ap, ◌∙◌}
use Rattle.tl_audit.proofs.watch.Watch.new.Goals as goal

pub returns : goal.returns
returns c =
    let tree = c.args.opening.now in
    let nodes_are : c.node_count-nodes.result ≡ length tree.parents = c.node_count-nodes.ensures.count ∙ ap length (c.deref.ensures ∙ c.shape.ensures.shape) in
    let records : c.extend_from_slice.new.self.items ≡ tree.records = search rules in
    let checked = c.in_ok-new.ensures.checked tree.parents (sym nodes_are) in
    record {
      even = record { order = checked.even; records = ap length records ∙ c.shape.ensures.whole.count };
      calls_are = c.in_ok-new.ensures.calls;
      checked = checked;
      latest = records;
    }
