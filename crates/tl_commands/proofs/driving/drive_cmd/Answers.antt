use Rattle.std.proofs.Common.{inr, subst, ap, map}
use Rattle.std.proofs.lemmas.Result.{err_from_is_err_and}
use Rattle.tl_json.specs.Procedures.{procedure_form}
use Rattle.tl_commands.specs.Drive.{IsFirstDriveFault}
use Rattle.tl_commands.specs.Script.{IsScript, beside, move_view, script_view, script_of_moves}
use Rattle.tl_commands.proofs.DriveLemmas.{driven}
use Rattle.tl_commands.proofs.InputLemmas.{no_tree, no_script, no_procedures}
use Rattle.tl_commands.proofs.driving.drive_cmd.Goals as goal

pub returns-in-Err-clause-fault : goal.returns-in-Err-clause-fault
returns-in-Err-clause-fault c = λ known.
    let i = c.args.inputs in
    let more = c.in_ok-procedures.procedures.items in
    inr (more, c.in_ok-procedures.ensures.ok, no_tree i.limit (script_of_moves (beside more)) i.tree.now i.script.now more c.in-Err.fault c.in-Err.ensures.fault known)

pub returns-in_err-script-clause-fault : goal.returns-in_err-script-clause-fault
returns-in_err-script-clause-fault c =
    let i = c.args.inputs in
    let more = c.in_ok-procedures.procedures.items in
    let e = c.in_err-script.field-0.0 in
    let p = err_from_is_err_and c.from_residual-in_err-script.result c.from_residual-in_err-script.ensures.1 in
    let wrong : IsFirstDriveFault i.limit i.tree.now i.script.now i.sources.now e = λ known.
    inr (
      more,
      c.in_ok-procedures.ensures.ok,
      no_script i.limit script_of_moves i.tree.now i.script.now more e c.in-Ok.tree c.in-Ok.ensures.ok c.deref.result.now c.deref.ensures.value c.in_err-script.ensures.fault known,
    ) in
    rw (p.1, p.2) wrong

pub returns-in_err-core-clause-fault : goal.returns-in_err-core-clause-fault
returns-in_err-core-clause-fault c =
    let i = c.args.inputs in
    let more = c.in_ok-procedures.procedures.items in
    let e = c.in_err-core.field-0.0 in
    let script = c.in_ok-script.script in
    let p = err_from_is_err_and c.from_residual-in_err-core.result c.from_residual-in_err-core.ensures.1 in
    let wrong : IsFirstDriveFault i.limit i.tree.now i.script.now i.sources.now e = λ known.
    inr (
      more,
      c.in_ok-procedures.ensures.ok,
      no_procedures i.limit script_of_moves i.tree.now i.script.now more e c.in-Ok.tree c.in-Ok.ensures.ok c.deref.result.now c.deref.ensures.value (script_view move_view script) c.in_ok-script.ensures.ok c.deref-2.result.now
          (ap (map procedure_form) c.deref-2.ensures.value) c.in_err-core.ensures.fault known,
    ) in
    rw (p.1, p.2) wrong

pub returns-in-Ok-drive-clause-driven : goal.returns-in-Ok-drive-clause-driven
returns-in-Ok-drive-clause-driven c =
    let i = c.args.inputs in
    let s = i.script.now in
    let more = c.in_ok-procedures.procedures.items in
    let script = c.in_ok-script.script in
    let is = subst (λ ps. IsScript (script_of_moves (beside ps)) s (script_view move_view script)) c.deref.ensures.value c.in_ok-script.ensures.ok in
    driven i.limit i.tree.now s i.sources.now more c.in-Ok.tree script c.in_ok-core.core.seen c.drive.new.self.seen c.deref-2.result.now c.deref-3.result.now c.in-Ok-drive.trace.items c.in_ok-procedures.ensures.ok
    c.in-Ok.ensures.ok is c.deref-2.ensures.value c.in_ok-core.ensures.registered c.in_ok-core.ensures.ok c.deref-3.ensures.value c.in-Ok-drive.ensures.traced c.in-Ok-drive.ensures.after
