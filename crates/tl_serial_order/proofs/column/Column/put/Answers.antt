use Rattle.std.proofs.Common.{◌≡◌, Some, map, set, refl, ap, ◌∙◌, arith}
use Rattle.std.proofs.lemmas.Bool.{ne_eqb}
use Rattle.std.proofs.lemmas.List.{map-set}
use Rattle.tl_serial_order.specs.Column.{call_in}
use Rattle.tl_serial_order.specs.declared.column.TheConstants.{NO_CALL}
use Rattle.tl_serial_order.proofs.column.Column.put.Goals as goal

pub returns : goal.returns
returns c =
    let entries = c.self.inside.entries.items in
    let call = c.args.call in
    let some : call_in call ≡ Some call = rw (ne_eqb call NO_CALL (λ same. omega (arith, same, c.requires.call))) refl in
    map-set call_in entries c.args.node call
    ∙ ap (λ entry. set (map call_in entries) c.args.node entry) some
    ∙ ap (λ calls. set calls c.args.node (Some call)) c.self.view_is
