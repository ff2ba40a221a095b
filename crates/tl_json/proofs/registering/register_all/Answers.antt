use Rattle.std.proofs.Common.{rules, ◌≡◌, false, [], drop, get_or, map, sym, ap, ◌∙◌, subst, arith, ◌+◌}
use Rattle.tl_json.specs.Faults.{is_memory}
use Rattle.tl_json.specs.Procedures.{procedure_form}
use Rattle.tl_json.specs.Registering.{IsFit, IsUnfit, IsFirstUnfit, and_named}
use Rattle.tl_json.proofs.Taking.{SoFar, one_taken, one_unfit}
use Rattle.tl_json.proofs.registering.register_all.Goals as goal

pub returns-in_err-register-clause-fault : goal.returns-in_err-register-clause-fault
returns-in_err-register-clause-fault c =
    let vs = c.args.texts.now in
    let i = c.loop-written.written-index in
    let wrong : is_memory c.in_err-register.field-0.0 ≡ false → IsFirstUnfit [] (map procedure_form vs) c.in_err-register.field-0.0 =
    λ ne. one_unfit [] c.loop-written.procedures vs i c.written-item.result c.in_err-register.field-0.0 (omega arith) c.loop-written.invariant
    (subst (λ x. IsUnfit c.loop-written.procedures (procedure_form x) c.in_err-register.field-0.0) c.written-item.is (c.in_err-register.ensures.fault ne)) in
    search rules

pub loop-written-preserved : goal.loop-written-preserved
loop-written-preserved c =
    let vs = c.args.texts.now in
    let i = c.loop-written.written-index in
    let x = c.written-item.result in
    let before = c.loop-written.procedures in
    let taken = c.in_ok-register.ensures.ok in
    let fit : IsFit before (procedure_form (get_or vs i x)) taken.0 = subst (λ y. IsFit before (procedure_form y) taken.0) c.written-item.is taken.1 in
    let more = one_taken [] before vs i x taken.0 (omega arith) c.loop-written.invariant fit in
    let now : c.register.new.procedures ≡ and_named before (procedure_form (get_or vs i x)).0 taken.0 = taken.2 ∙ ap (λ y. and_named before (procedure_form y).0 taken.0) c.written-item.is in
    subst (λ after. SoFar [] (map procedure_form vs) (map procedure_form (drop (i + 1) vs)) after) (sym now) more
