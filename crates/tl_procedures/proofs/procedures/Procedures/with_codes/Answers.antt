use Rattle.std.proofs.Common.{◌∙◌, ◌<◌, length, map, sym, arith}
use Rattle.tl_procedures.specs.Names.{with_code}
use Rattle.tl_procedures.proofs.Replacing.{replaced_more}
use Rattle.tl_procedures.proofs.procedures.Procedures.with_codes.Goals as goal

pub loop-number-preserved : goal.loop-number-preserved
loop-number-preserved c =
    let inside : c.loop-number.number < length c.args.others.now = (let n = c.len-number-end.ensures.value in let l = c.loop-number-test.true in omega (arith, n, l)) in
    c.in_ok-procedures-2.ensures ∙ (λ i. map (with_code (record { name = c.name.ensures i; code = c.get.ensures i })) (c.loop-number.invariant i))
    ∙ sym (replaced_more c.args.self.now c.args.others.now c.loop-number.number inside)
