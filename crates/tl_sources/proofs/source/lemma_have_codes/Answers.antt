use Rattle.std.proofs.Common.{subst}
use Rattle.std.specs.List.{All}
use Rattle.std.proofs.lemmas.List.{take_all}
use Rattle.std.proofs.lemmas.List.Elements.{All-more}
use Rattle.tl_instr.specs.Codes.{IsCode}
use Rattle.tl_compiler.specs.declared.compiler.Compiled.{Compiled}
use Rattle.tl_sources.proofs.source.lemma_have_codes.Goals as goal

pub loop-compiled-preserved : goal.loop-compiled-preserved
loop-compiled-preserved c =
    All-more (λ (x : Compiled). IsCode x.procedure) c.args.procedures.now c.loop-compiled.compiled-index c.compiled-item.result c.loop-compiled-test.true c.loop-compiled.invariant
    (subst (λ (x : Compiled). IsCode x.procedure) c.compiled-item.is c.code-fact.ensures.valid)

pub returns : goal.returns
returns c = subst (All (λ (x : Compiled). IsCode x.procedure)) (take_all c.loop-compiled.compiled-index c.args.procedures.now c.loop-compiled-test.false) c.loop-compiled.invariant
