use Rattle.std.proofs.Common.{take}
use Rattle.tl_asm.specs.Sketches.{IsSketch, said_by}
use Rattle.tl_asm.proofs.sketch.sketch_of.Given as goal

abbrev pub invariant-loop-index : goal.invariant-loop-index
invariant-loop-index l = IsSketch (take l.index (said_by l.lines)) l.sketch
