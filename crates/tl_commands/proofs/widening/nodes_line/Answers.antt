use Rattle.std.proofs.Common.{rules, ◌≡◌, ◌++◌, ◌∷◌, [], pos, length, codes, ap, ◌∙◌, string_bytes}
use Rattle.std.proofs.lemmas.Result.{IfOk-weaker}
use Rattle.serde_json.specs.Data.{object, member, no_members}
use Rattle.serde_json.specs.View.{view}
use Rattle.serde_json.specs.Written.{has_float, compact_text}
use Rattle.tl_tree.specs.Writing.{integer_data}
use Rattle.tl_commands.specs.Widening.{nodes_text}
use Rattle.tl_commands.proofs.ProcedureLines.{nodes_data, nodes_whole, nodes_written}
use Rattle.tl_commands.proofs.widening.nodes_line.Goals as goal

pub returns : goal.returns
returns c =
    let nodes = length c.args.tree.now.parents in
    let count : c.node_count.result ≡ length c.args.tree.now.parents = search rules in
    let is : view c.in_ok-value.value ≡ nodes_data nodes =
    c.in_ok-value.ensures ∙ ap (λ d. object (member (codes "nodes") d no_members)) (c.from.ensures ∙ ap (λ n. integer_data (pos n)) count) in
    IfOk-weaker c.line_of.result _ (λ s. string_bytes s ≡ nodes_text nodes)
    (λ s line. line (ap has_float is ∙ nodes_whole nodes) ∙ ap (λ d. compact_text d ++ 10 ∷ []) is ∙ nodes_written nodes)
    c.line_of.ensures
