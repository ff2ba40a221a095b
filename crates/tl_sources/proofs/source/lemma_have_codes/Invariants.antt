use Rattle.std.proofs.Common.{take}
use Rattle.std.specs.List.{All}
use Rattle.tl_instr.specs.Codes.{IsCode}
use Rattle.tl_compiler.specs.declared.compiler.Compiled.{Compiled}
use Rattle.tl_sources.proofs.source.lemma_have_codes.Given as goal

abbrev pub invariant-loop-compiled : goal.invariant-loop-compiled
invariant-loop-compiled l = All (λ (c : Compiled). IsCode c.procedure) (take l.compiled-index l.procedures)
