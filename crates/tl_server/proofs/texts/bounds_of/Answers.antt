use Rattle.std.proofs.Common.{◌+◌, ◌∙◌, take, sym, subst, arith}
use Rattle.tl_verify.specs.Procedure.{AreBounds}
use Rattle.tl_server.specs.declared.texts.NamedBounds.{NamedBounds}
use Rattle.tl_server.specs.Served.{AreBoundsOf}
use Rattle.tl_server.proofs.TextLemmas.{bounds_next}
use Rattle.tl_server.proofs.texts.bounds_of.Goals as goal

pub loop-named-preserved : goal.loop-named-preserved
loop-named-preserved c =
    let procedures = c.args.procedures.now in
    let i = c.loop-named.named-index in
    let told : NamedBounds = record { name = c.in_ok-from_str.field-0; bounds = c.bounds.result } in
    subst (AreBoundsOf (take (i + 1) procedures)) (sym c.in_ok-push.ensures.items)
    (bounds_next procedures i c.named-item.result c.loop-named.all.items told (omega arith) c.named-item.is c.loop-named.invariant
    (c.in_ok-from_str.ensures.ok ∙ c.name.ensures)
    (subst (λ code. AreBounds code.instrs c.bounds.result) c.procedure.ensures c.bounds.ensures))
