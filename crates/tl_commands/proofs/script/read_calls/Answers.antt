use Rattle.std.proofs.Common.{◌≡◌, Some, sym}
use Rattle.serde_json.specs.View.{view}
use Rattle.tl_commands.specs.Script.{beside, script_view, batch_form, script_of_run}
use Rattle.tl_commands.proofs.ScriptCounts.{are_batches}
use Rattle.tl_commands.proofs.script.read_calls.Goals as goal

pub returns-in-Some-2-clause-each : goal.returns-in-Some-2-clause-each
returns-in-Some-2-clause-each c =
    let d = view c.in-Some.value in
    let script = c.in-Some-2.asked.script in
    let none = beside c.args.others.now in
    let is : Some (script_view batch_form script) ≡ script_of_run none d = rw (c.in-Some-2.is, c.stands_in.ensures) at c.in_ok-asked.ensures.script in
    (are_batches none d script (sym is)).each
