use Rattle.tl_json.specs.Procedures.{procedure_data}
use Rattle.tl_language_commands.proofs.CompilingLemmas.{pushed}
use Rattle.tl_language_commands.proofs.compiling.procedures_to_value.Goals as goal

pub loop-one-preserved : goal.loop-one-preserved
loop-one-preserved c =
    pushed procedure_data c.loop-one.items.items c.push.new.self.items c.in_ok-procedure_to_value.field-0 c.loop-one.yielded c.in-Some.one c.in_ok-push.ensures.items c.loop-one.invariant
    c.in_ok-procedure_to_value.ensures
