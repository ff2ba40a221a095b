use Rattle.std.proofs.Common.{arith}
use Rattle.std.proofs.lemmas.Result.{err_from_is_err_and}
use Rattle.tl_instr.proofs.Laws.{same_code, faultless}
use Rattle.tl_instr.proofs.Read.{is_spelled, memory_alone}
use Rattle.tl_instr.proofs.container.decode.Goals as goal

pub returns-in_err-version-clause-only : goal.returns-in_err-version-clause-only
returns-in_err-version-clause-only c = λ code spelled.
    let p = err_from_is_err_and c.from_residual.result c.from_residual.ensures.1 in
    rw (p.1, p.2) (absurd (faultless c.args.bytes.now code c.in_err-version.field-0.0 spelled c.in_err-version.ensures))

pub returns-in_err-instrs-clause-only : goal.returns-in_err-instrs-clause-only
returns-in_err-instrs-clause-only c = λ code spelled.
    let p = err_from_is_err_and c.from_residual-in_err-instrs.result c.from_residual-in_err-instrs.ensures.1 in
    rw (p.1, p.2) (memory_alone c.args.bytes.now code c.in_err-instrs.field-0.0 spelled c.in_err-instrs.ensures.fault)

pub from_parts-requires : goal.from_parts-requires
from_parts-requires c =
    let framed = c.in_ok-version.ensures in
    rw (c.in_ok-to_vec.ensures.items_if_clones_equal (λ _ _ e. e)) (is_spelled c.args.bytes.now c.in_ok-version.field-0.version c.in_ok-version.field-0.arity c.in_ok-version.field-0.count c.in_ok-instrs.instrs.items (λ i. omega (arith, c.type_inv.bytes i)) framed.0 framed.1 framed.2 framed.3 c.in_ok-instrs.ensures.valid.0 c.in_ok-instrs.ensures.valid.1 c.in_ok-instrs.ensures.spelled)

pub returns-clause-found : goal.returns-clause-found
returns-clause-found c =
    let framed = c.in_ok-version.ensures in
    rw c.from_parts.ensures (is_spelled c.args.bytes.now c.in_ok-version.field-0.version c.in_ok-version.field-0.arity c.in_ok-version.field-0.count c.in_ok-instrs.instrs.items (λ i. omega (arith, c.type_inv.bytes i)) framed.0 framed.1 framed.2 framed.3 c.in_ok-instrs.ensures.valid.0 c.in_ok-instrs.ensures.valid.1 c.in_ok-instrs.ensures.spelled)

pub returns-clause-only : goal.returns-clause-only
returns-clause-only c = λ code spelled. same_code c.args.bytes.now c.from_parts.result code (returns-clause-found c) spelled
