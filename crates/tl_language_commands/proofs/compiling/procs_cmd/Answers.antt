use Rattle.std.proofs.Common.{◌∙◌, [], ◌∷◌, ◌++◌, ap}
use Rattle.serde_json.specs.Written.{has_float, compact_text}
use Rattle.tl_language_commands.proofs.CompilingLemmas.{procedures_whole}
use Rattle.tl_language_commands.proofs.compiling.procs_cmd.Goals as goal

pub returns-clause-printed : goal.returns-clause-printed
returns-clause-printed c = record {
  procedures = c.in_ok-procedures.procedures.items;
  provided = c.in_ok-procedures.ensures.ok;
  same =
      c.in_ok-line_of.ensures (ap has_float c.in_ok-list.ensures ∙ procedures_whole c.in_ok-procedures.procedures.items)
      ∙ ap (λ d. compact_text d ++ 10 ∷ []) c.in_ok-list.ensures;
}
