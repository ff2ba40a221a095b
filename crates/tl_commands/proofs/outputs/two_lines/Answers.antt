use Rattle.std.proofs.Common.{◌∙◌}
use Rattle.serde_json.specs.View.{view}
use Rattle.tl_commands.proofs.LineLemmas.{two_lines_written}
use Rattle.tl_commands.proofs.outputs.two_lines.Goals as goal

pub returns-clause-ok : goal.returns-clause-ok
returns-clause-ok c = λ whole.
    two_lines_written (view c.args.value.now) c.args.tree.now _ c.deref.result.now _ _
    (c.in_ok-text.ensures.text whole) (c.deref.ensures ∙ c.in-Ok.ensures.text) c.in_ok-next_lines.ensures c.in_ok-push_str.ensures.bytes
