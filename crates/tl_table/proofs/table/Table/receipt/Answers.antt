use Rattle.std.proofs.Common.{◌≡◌, ◌≢◌, ◌∙◌, [], ◌∷◌, length, refl, sym, ap, arith}
use Rattle.std.specs.Prelude.{Some, None, slice_get}
use Rattle.std.proofs.lemmas.Option.{slice_get_read, slice_get_past}
use Rattle.tl_table.proofs.Lines.{number_at}
use Rattle.tl_table.proofs.ReceiptsOfEpochs.{receipt_call, receipt_fault, no_epoch}
use Rattle.tl_table.proofs.table.Table.receipt.Goals as goal

there : (c : goal.After-receipt-in-Some) → slice_get c.self.inside.sealed.items c.args.epoch ≡ Some c.in-Some.closed.now
there c =
    ap (λ xs. slice_get xs c.args.epoch) (sym c.deref.ensures.value)
    ∙ slice_get_read c.deref.result.now _ c.args.epoch c.in-Some.closed.now refl c.in-Some.ensures.lookup.3.0 c.in-Some.ensures.lookup.1

pub returns-in-Some-clause-call : goal.returns-in-Some-clause-call
returns-in-Some-clause-call c =
    let h = c.self.invariant in
    let own = number_at 0 h.parents h.opening [] c.self.inside.sealed.items c.args.epoch c.in-Some.closed.now h.line (there c) in
    receipt_call _ c.receipt-in-Some.result c.in-Some.closed.now c.args.epoch c.args.call (omega (arith, own)) c.receipt-in-Some.ensures.receipt

pub returns-in-Some-clause-fault : goal.returns-in-Some-clause-fault
returns-in-Some-clause-fault c =
    rw (← c.self.view_is) (receipt_fault c.receipt-in-Some.result c.self.inside.sealed.items (c.self.inside.current ∷ []) c.in-Some.closed.now c.args.epoch c.args.call (there c)
    c.receipt-in-Some.ensures.known c.receipt-in-Some.ensures.fault)

pub returns-in-None-clause-fault : goal.returns-in-None-clause-fault
returns-in-None-clause-fault c =
    let none : slice_get c.self.inside.sealed.items c.args.epoch ≡ None =
    ap (λ xs. slice_get xs c.args.epoch) (sym c.deref.ensures.value) ∙ slice_get_past c.deref.result.now c.args.epoch c.in-None.ensures.lookup.3 in
    let other : c.args.epoch ≢ length c.self.inside.sealed.items = λ same. c.if-epoch-number.false (same ∙ sym (c.number.ensures ∙ c.self.invariant.next.number)) in
    rw (← c.self.view_is) (refl, (λ e at known. no_epoch c.self.inside.sealed.items c.self.inside.current c.args.epoch e none other at))
