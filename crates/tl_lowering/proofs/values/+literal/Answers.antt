use mir.Val.{to_z, of_z}
use Rattle.std.proofs.Common.{◌≡◌, ◌∙◌, w32, w64, rules}
use Rattle.tl_lowering.proofs.LiteralLemmas.{short_of, wide_of, long_of}
use Rattle.tl_lowering.proofs.PathLemmas.{ok_more}
use Rattle.tl_lowering.proofs.values.+literal.Goals as goal

pub returns-in-Ok-clause-named : goal.returns-in-Ok-clause-named
returns-in-Ok-clause-named t c =
    let same : to_z w64 (of_z w64 c.args.number) ≡ c.args.number = search rules in
    let here : to_z w32 (of_z w32 c.in-Ok.short) ≡ c.in-Ok.short = search rules in
    short_of (here ∙ c.in-Ok.ensures.1 ∙ same) (rw same at c.in-Ok.ensures.0)

pub returns-in_ok-product-in-Err-clause-named : goal.returns-in_ok-product-in-Err-clause-named
returns-in_ok-product-in-Err-clause-named t c =
    let same : to_z w64 (of_z w64 c.args.number) ≡ c.args.number = search rules in
    let parts = c.divided-quotient.ensures in
    let quotient : to_z w64 (of_z w64 c.divided-quotient.result.0) ≡ c.divided-quotient.result.0 = search rules in
    let rest : to_z w32 (of_z w32 c.divided-quotient.result.1) ≡ c.divided-quotient.result.1 = search rules in
    ok_more c.calculated-in-Err.result _ _ c.calculated-in-Err.ensures.named
    (λ e l. long_of (wide_of c.args.number (rw same at c.in-Err.ensures)) (quotient ∙ (rw same at parts.quotient)) (rest ∙ (rw same at parts.rest)) c.in_ok-quotient-in-Err.ensures.named
    c.in_ok-product-in-Err.ensures.named l)

pub returns-in_ok-product-in-Err-clause-readable : goal.returns-in_ok-product-in-Err-clause-readable
returns-in_ok-product-in-Err-clause-readable t c = λ values held.
    c.calculated-in-Err.ensures.readable values held (c.in_ok-product-in-Err.ensures.readable values held (c.in_ok-quotient-in-Err.ensures.readable values held) tt) tt
