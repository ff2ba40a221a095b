use Rattle.std.proofs.Common.{◌≡◌, ◌++◌, ◌∷◌, ap, sym, ◌∙◌}
use Rattle.std.proofs.lemmas.Result.{err_from_is_err_and}
use Rattle.std.specs.Vec.Iter.{into_iter_items}
use Rattle.tl_procedures.proofs.AddingAll.{taken_front, one_more, refused_at}
use Rattle.tl_procedures.proofs.procedures.Procedures.and_all.Goals as goal

pub returns-in_err-add-clause-fault : goal.returns-in_err-add-clause-fault
returns-in_err-add-clause-fault c =
    let fault = err_from_is_err_and c.from_residual.result c.from_residual.ensures.1 in
    let s = c.into_iter-named-iterator.result in
    let t = c.loop-named.named-iterator in
    let p = c.in-Some.named in
    let rest = into_iter_items c.next.new.self in
    let front = taken_front s c.loop-named.yielded t c.loop-named.yielded_by in
    let split : c.args.more.items ≡ c.loop-named.yielded ++ p ∷ rest = sym c.into_iter-named-iterator.ensures.into_iter_gives.0 ∙ front ∙ ap (λ ps. c.loop-named.yielded ++ ps) c.in-Some.ensures.steps.0 in
    rw (fault.1, fault.2) (λ known. refused_at c.args.self c.loop-named.yielded c.loop-named.procedures c.args.more.items rest p c.deref.result.now c.in_err-add.field-0.0 c.loop-named.invariant split (c.deref.ensures ∙ c.into_parts-name.ensures.name) (c.in_err-add.ensures.fault known))

pub loop-named-preserved : goal.loop-named-preserved
loop-named-preserved c =
    let p = c.in-Some.named in
    one_more c.args.self c.loop-named.yielded c.loop-named.procedures c.add.new.self p c.deref.result.now _ c.loop-named.invariant (c.deref.ensures ∙ c.into_parts-name.ensures.name) c.into_parts-name.ensures.procedure c.in_ok-add.ensures.free c.in_ok-add.ensures.last
