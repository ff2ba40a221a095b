use Rattle.std.proofs.Common.{None, set, ap, ◌∙◌}
use Rattle.std.proofs.lemmas.List.{map-set}
use Rattle.tl_serial_order.specs.Column.{call_in}
use Rattle.tl_serial_order.specs.declared.column.TheConstants.{NO_CALL}
use Rattle.tl_serial_order.proofs.column.Column.clear.Goals as goal

pub returns : goal.returns
returns c =
    map-set call_in c.self.inside.entries.items c.args.node NO_CALL
    ∙ ap (λ calls. set calls c.args.node None) c.self.view_is
