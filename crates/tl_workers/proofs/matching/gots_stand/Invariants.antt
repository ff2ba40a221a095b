use Rattle.std.proofs.Common.{◌≡◌, ◌<◌, ℕ, take}
use Rattle.std.specs.Prelude.{Some, slice_get}
use Rattle.tl_workers.specs.declared.session.Did.{Did}
use Rattle.tl_workers.specs.Matching.{IsBacked}
use Rattle.tl_workers.proofs.matching.gots_stand.Given as goal

abbrev pub invariant-loop-i : goal.invariant-loop-i
invariant-loop-i l = (k : ℕ) (did : Did) → k < l.i → slice_get l.session.kept k ≡ Some did → IsBacked l.chain did (take k l.session.kept)
