use Rattle.std.proofs.Common.{◌∙◌, ap, refl, string_bytes, subst}
use Rattle.std.proofs.lemmas.Result.{IfOk-weaker}
use Rattle.serde_json.specs.View.{view}
use Rattle.tl_commands.specs.Drive.{DrivenValue, PrintsDriven}
use Rattle.tl_commands.specs.Scripted.{tree_now}
use Rattle.tl_commands.specs.Trace.{trace_data}
use Rattle.tl_commands.proofs.LineLemmas.{trace_whole, conclusion_whole, lines_of}
use Rattle.tl_commands.proofs.driving.Driven.lines.Goals as goal

pub returns-clause-printed : goal.returns-clause-printed
returns-clause-printed c =
    let v = c.self.inside.core.seen in
    let entries = c.self.inside.trace.items in
    let d = view c.in_ok-conclusion.conclusion in
    IfOk-weaker c.three_lines.result _ (λ s. PrintsDriven c.args.self.now (string_bytes s))
    (λ s told. subst (λ (x : DrivenValue). PrintsDriven x (string_bytes s)) c.self.view_is (record {
      conclusion = d;
      concluded = c.in_ok-conclusion.ensures.ok;
      same = lines_of _ (trace_data entries) d d _ (tree_now v) (string_bytes s) (c.in_ok-trace.ensures ∙ ap trace_data c.deref.ensures.value) refl c.tree.ensures (trace_whole entries)
          (conclusion_whole v d c.in_ok-conclusion.ensures.ok) told;
    }))
    c.three_lines.ensures.ok
