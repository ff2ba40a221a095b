use Rattle.std.proofs.Common.{◌≡◌, ◌++◌, ◌∷◌, [], length, ap, refl, ◌∙◌, string_bytes}
use Rattle.std.proofs.lemmas.Result.{IfOk-weaker}
use Rattle.serde_json.specs.View.{view}
use Rattle.serde_json.specs.Written.{has_float, compact_text}
use Rattle.tl_budget.specs.Loops.{budget, lock_bound, emit_bound}
use Rattle.tl_language_commands.specs.Compiling.{compiled_text}
use Rattle.tl_language_commands.proofs.CompilingLemmas.{compiled_data, compiled_whole, compiled_written}
use Rattle.tl_language_commands.proofs.compiling.compiled_line.Goals as goal

pub returns : goal.returns
returns c =
    let instrs = c.args.procedure.now.instrs in
    let emits = emit_bound instrs in
    let locks = lock_bound instrs in
    let steps = budget instrs in
    let count = length instrs in
    let is : view c.in_ok-value.value ≡ compiled_data emits locks steps count =
    c.in_ok-value.ensures
    ∙ rw (c.from-emits.ensures, c.from-locks.ensures, c.from-steps.ensures, c.from-count.ensures, c.bounds-bounds.ensures.emits, c.bounds-bounds.ensures.locks, c.bounds-bounds.ensures.steps, c.count.ensures.value, c.code.ensures.value) refl in
    IfOk-weaker c.line_of.result _ (λ s. string_bytes s ≡ compiled_text emits locks steps count)
    (λ s line. line (ap has_float is ∙ compiled_whole emits locks steps count) ∙ ap (λ d. compact_text d ++ 10 ∷ []) is ∙ compiled_written emits locks steps count)
    c.line_of.ensures
