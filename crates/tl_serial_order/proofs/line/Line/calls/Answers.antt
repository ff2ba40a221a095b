use Rattle.std.proofs.Common.{subst}
use Rattle.std.specs.Prelude.{◌<◌, All}
use Rattle.tl_serial_order.proofs.Lines.{line_known}
use Rattle.tl_serial_order.proofs.line.Line.calls.Goals as goal

pub returns-clause-known : goal.returns-clause-known
returns-clause-known c =
    subst (λ l. All (λ d. d < l.count) l.order) c.self.view_is
    (line_known c.self.inside.order.items c.self.inside.standing.items c.self.invariant)
