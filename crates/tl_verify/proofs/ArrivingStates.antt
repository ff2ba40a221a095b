-- The states that reach a position from the positions below a bound.
use Rattle.std.proofs.Common.{ℕ, ◌≤◌, List, refl, arith}
use Rattle.tl_instr.specs.declared.instr.Instr.{Instr}
use Rattle.tl_verify.specs.declared.marks.Marks.{Marks}
use Rattle.tl_verify.specs.Ways.{Way, start, onward}
use Rattle.tl_verify.specs.Known.{Comes, begins, steps}

pub comes_way : (code : List Instr) (b q : ℕ) (k : Marks) → Comes code b q k → Way code q k
comes_way code b q k (begins e f) = rw (e, f) start
comes_way code b q k (steps p m i lt way at leads less) = onward way i at leads less

pub way_comes : (code : List Instr) (q : ℕ) (k : Marks) → Way code q k → (b : ℕ) → q ≤ b → Comes code b q k
way_comes code q k start b le = begins refl refl
way_comes code q k (onward way i at leads less) b le = steps _ _ i (omega arith) way at leads less
