use Rattle.std.proofs.Common.{◌≡◌, take, map}
use Rattle.tl_asm.proofs.assembling.lines_in.Given as goal

abbrev pub invariant-loop-index : goal.invariant-loop-index
invariant-loop-index l = l.lines.items ≡ map (λ origin. origin.line) (take l.index l.origins)
