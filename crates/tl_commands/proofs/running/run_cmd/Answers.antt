use Rattle.std.proofs.Common.{◌∙◌, List, inr, inl, All, subst, sym, ap, map, ◌≤◌, length}
use Rattle.std.specs.Prelude.{Vec}
use Rattle.std.specs.declared.alloc.Global.{Global}
use Rattle.std.proofs.lemmas.Result.{err_from_is_err_and}
use Rattle.tl_procedures.specs.declared.request.Request.{Request}
use Rattle.tl_workers.specs.declared.batch.TheConstants.{MAX_REQUESTS}
use Rattle.tl_generations.specs.Generations.{LegacyValue}
use Rattle.tl_table.specs.Epochs.{EpochValue}
use Rattle.tl_json.specs.Procedures.{procedure_form}
use Rattle.tl_commands.specs.Script.{IsScript, beside, batch_form, has_epochs, script_view, script_of_run}
use Rattle.tl_commands.specs.Run.{RunValue, IsRun, IsFirstRunFault, RunsOn, begun_by, batches_of, answers_of}
use Rattle.tl_commands.proofs.InputLemmas.{no_tree, no_script, no_procedures}
use Rattle.tl_commands.proofs.RunLemmas.{ready}
use Rattle.tl_commands.proofs.running.run_cmd.Goals as goal

pub returns-clause-ran : goal.returns-clause-ran
returns-clause-ran g c =
    let i = c.args.inputs in
    let s = i.script.now in
    let more = c.in_ok-procedures.procedures.items in
    let batches = c.deref-3.result.now in
    let script = c.in_ok-asked.asked.script in
    let script_is = subst (λ ps. IsScript (script_of_run (beside ps)) s (script_view batch_form script)) c.deref.ensures.value c.in_ok-asked.ensures.ok in
    let is = ready i.limit i.tree.now s i.sources.now more c.in-Ok.tree script c.in_ok-core.core.seen c.deref-2.result.now batches c.in_ok-procedures.ensures.ok c.in-Ok.ensures.ok script_is c.deref-2.ensures.value c.in_ok-core.ensures.registered
    c.deref-3.ensures.value
    in
    let done = c.in_ok-answers.ensures.ok in
    let answers = answers_of c.in_ok-answers.answers.items in
    let b = c.in_ok-asked.asked.has_epochs in
    let of : List EpochValue → RunValue = λ es. record { answers = answers; epochs = es; has_epochs = b } in
    let run : IsRun i.limit i.tree.now s i.sources.now (of c.in_ok-answers.chain.items) =
    record {
      batches = batches_of batches;
      session = done.0;
      ready = is;
      answered = done.1;
      as_many = c.in_ok-answers.ensures.epochs.0;
      in_epochs = c.in_ok-answers.ensures.epochs.1;
      chain = c.in_ok-answers.ensures.chain;
      matches = done.2;
      based = subst (λ (l : LegacyValue). RunsOn l c.in_ok-answers.chain.items) (ap begun_by c.in_ok-core.ensures.ok) c.in_ok-answers.ensures.based;
      names_epochs = c.in_ok-asked.ensures.epochs ∙ ap (λ ps. has_epochs (beside ps) s) c.deref.ensures.value;
    }
    in
    subst (λ es. IsRun i.limit i.tree.now s i.sources.now (of es)) (sym c.new.ensures) run

pub returns-in_err-answers-clause-fault : goal.returns-in_err-answers-clause-fault
returns-in_err-answers-clause-fault g c =
    let i = c.args.inputs in
    let s = i.script.now in
    let more = c.in_ok-procedures.procedures.items in
    let batches = c.deref-3.result.now in
    let script = c.in_ok-asked.asked.script in
    let script_is = subst (λ ps. IsScript (script_of_run (beside ps)) s (script_view batch_form script)) c.deref.ensures.value c.in_ok-asked.ensures.ok in
    let is = ready i.limit i.tree.now s i.sources.now more c.in-Ok.tree script c.in_ok-core.core.seen c.deref-2.result.now batches c.in_ok-procedures.ensures.ok c.in-Ok.ensures.ok script_is c.deref-2.ensures.value c.in_ok-core.ensures.registered
    c.deref-3.ensures.value
    in
    let p = err_from_is_err_and c.from_residual-in_err-answers.result c.from_residual-in_err-answers.ensures.1 in
    let wrong : IsFirstRunFault i.limit i.tree.now s i.sources.now c.in_err-answers.field-0.0 = λ known. inr (batches_of batches, is, c.in_err-answers.ensures.fault known) in
    rw (p.1, p.2) wrong

pub returns-in-Err-clause-fault : goal.returns-in-Err-clause-fault
returns-in-Err-clause-fault g c = λ known.
    let i = c.args.inputs in
    let more = c.in_ok-procedures.procedures.items in
    inl (inr (more, c.in_ok-procedures.ensures.ok, no_tree i.limit (script_of_run (beside more)) i.tree.now i.script.now more c.in-Err.fault c.in-Err.ensures.fault known))

pub returns-in_err-asked-clause-fault : goal.returns-in_err-asked-clause-fault
returns-in_err-asked-clause-fault g c =
    let i = c.args.inputs in
    let more = c.in_ok-procedures.procedures.items in
    let e = c.in_err-asked.field-0.0 in
    let p = err_from_is_err_and c.from_residual-in_err-asked.result c.from_residual-in_err-asked.ensures.1 in
    let wrong : IsFirstRunFault i.limit i.tree.now i.script.now i.sources.now e = λ known.
    inl (inr (
      more,
      c.in_ok-procedures.ensures.ok,
      no_script i.limit script_of_run i.tree.now i.script.now more e c.in-Ok.tree c.in-Ok.ensures.ok c.deref.result.now c.deref.ensures.value c.in_err-asked.ensures.fault known,
    )) in
    rw (p.1, p.2) wrong

pub returns-in_err-core-clause-fault : goal.returns-in_err-core-clause-fault
returns-in_err-core-clause-fault g c =
    let i = c.args.inputs in
    let more = c.in_ok-procedures.procedures.items in
    let e = c.in_err-core.field-0.0 in
    let script = c.in_ok-asked.asked.script in
    let p = err_from_is_err_and c.from_residual-in_err-core.result c.from_residual-in_err-core.ensures.1 in
    let wrong : IsFirstRunFault i.limit i.tree.now i.script.now i.sources.now e = λ known.
    inl (inr (
      more,
      c.in_ok-procedures.ensures.ok,
      no_procedures i.limit script_of_run i.tree.now i.script.now more e c.in-Ok.tree c.in-Ok.ensures.ok c.deref.result.now c.deref.ensures.value (script_view batch_form script) c.in_ok-asked.ensures.ok c.deref-2.result.now
          (ap (map procedure_form) c.deref-2.ensures.value) c.in_err-core.ensures.fault known,
    )) in
    rw (p.1, p.2) wrong

pub run_on_core-requires-clause-each : goal.run_on_core-requires-clause-each
run_on_core-requires-clause-each g c = λ κs lives.
    subst (All (λ (b : Vec Request Global). (1 ≤ length b.items) × (length b.items ≤ MAX_REQUESTS))) (sym c.deref-3.ensures.value) c.in_ok-asked.ensures.each
