use Rattle.std.proofs.Common.{◌≡◌, Some, take, map}
use Rattle.tl_asm.specs.Texts.{aimed}
use Rattle.tl_asm.specs.Sketches.{known, traced, drafts_of}
use Rattle.tl_asm.proofs.resolving.resolved.Given as goal

abbrev pub invariant-loop-index : goal.invariant-loop-index
invariant-loop-index l = map (λ d. aimed (known l.labels.entries) d.1.instr d.1.label) (take l.index (drafts_of l.instrs (traced l.origins))) ≡ map Some l.resolved.items
