use Rattle.std.proofs.Common.{[], drop, map}
use Rattle.tl_json.specs.Procedures.{procedure_form}
use Rattle.tl_json.proofs.Taking.{SoFar}
use Rattle.tl_json.proofs.registering.register_all.Given as goal

abbrev pub invariant-loop-written : goal.invariant-loop-written
invariant-loop-written l = SoFar [] (map procedure_form l.texts) (map procedure_form (drop l.written-index l.texts)) l.procedures
