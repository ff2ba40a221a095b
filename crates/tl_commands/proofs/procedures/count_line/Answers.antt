use Rattle.std.proofs.Common.{◌≡◌, ◌++◌, ◌∷◌, [], pos, length, codes, ap, ◌∙◌, string_bytes}
use Rattle.std.proofs.lemmas.Result.{IfOk-weaker}
use Rattle.serde_json.specs.Data.{object, member, no_members}
use Rattle.serde_json.specs.View.{view}
use Rattle.serde_json.specs.Written.{has_float, compact_text}
use Rattle.tl_tree.specs.Writing.{integer_data}
use Rattle.tl_commands.specs.Procedures.{count_text}
use Rattle.tl_commands.proofs.ProcedureLines.{count_data, count_whole, count_written}
use Rattle.tl_commands.proofs.procedures.count_line.Goals as goal

pub returns : goal.returns
returns c =
    let count = length c.args.code.now.instrs in
    let is : view c.in_ok-value.value ≡ count_data count =
    c.in_ok-value.ensures ∙ ap (λ d. object (member (codes "count") d no_members)) (c.from.ensures ∙ ap (λ n. integer_data (pos n)) c.count.ensures.value) in
    IfOk-weaker c.line_of.result _ (λ s. string_bytes s ≡ count_text count)
    (λ s line. line (ap has_float is ∙ count_whole count) ∙ ap (λ d. compact_text d ++ 10 ∷ []) is ∙ count_written count)
    c.line_of.ensures
