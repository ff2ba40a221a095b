use Rattle.std.proofs.Common.{◌≢◌, None, arith}
use Rattle.std.proofs.lemmas.List.Elements.{All-more}
use Rattle.tl_procedures.specs.Names.{Named, no_procedure, number_of}
use Rattle.tl_procedures.proofs.procedures.Procedures.has_all.Goals as goal

pub loop-number-preserved : goal.loop-number-preserved
loop-number-preserved c =
    let Has : Named → Type 0 = λ p. number_of c.args.self.now p.name ≢ None in
    All-more Has c.args.others.now c.loop-number.number no_procedure (let n = c.len-number-end.ensures.value in let l = c.loop-number-test.true in omega (arith, n, l))
    c.loop-number.invariant (c.has.ensures.0 c.if-not-has.false)
