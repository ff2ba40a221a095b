use Rattle.std.proofs.Common.{◌≡◌, ◌++◌, ◌∷◌, [], codes, ap, refl, ◌∙◌, string_bytes}
use Rattle.std.proofs.lemmas.Result.{IfOk-weaker}
use Rattle.serde_json.specs.Data.{object, member, no_members}
use Rattle.serde_json.specs.View.{view}
use Rattle.serde_json.specs.Written.{has_float, compact_text}
use Rattle.tl_lines.specs.Bounds.{bounds_data}
use Rattle.tl_commands.specs.Procedures.{bounds_text}
use Rattle.tl_commands.proofs.ProcedureLines.{bounds_whole, bounds_written}
use Rattle.tl_commands.proofs.procedures.bounds_line.Goals as goal

pub returns : goal.returns
returns c =
    let emits = c.args.bounds.emits in
    let locks = c.args.bounds.locks in
    let steps = c.args.bounds.steps in
    let is : view c.in_ok-value.value ≡ bounds_data emits locks steps =
    c.in_ok-value.ensures
    ∙ ap (λ d. object (member (codes "bounds") (object (member (codes "emits") d (member (codes "locks") (view c.from-locks.result) (member (codes "steps") (view c.from.result) no_members)))) no_members)) c.from-emits.ensures
    ∙ rw (c.from-locks.ensures, c.from.ensures) refl in
    IfOk-weaker c.line_of.result _ (λ s. string_bytes s ≡ bounds_text emits locks steps)
    (λ s line. line (ap has_float is ∙ bounds_whole emits locks steps) ∙ ap (λ d. compact_text d ++ 10 ∷ []) is ∙ bounds_written emits locks steps)
    c.line_of.ensures
