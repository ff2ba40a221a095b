use Rattle.std.proofs.Common.{◌∙◌}
use Rattle.serde_json.specs.View.{view}
use Rattle.tl_commands.proofs.LineLemmas.{lines_written}
use Rattle.tl_commands.proofs.outputs.three_lines.Goals as goal

pub returns-clause-ok : goal.returns-clause-ok
returns-clause-ok c = λ first_whole second_whole.
    lines_written (view c.args.first.now) (view c.args.second.now) c.args.tree.now _ c.deref.result.now _
    (c.in_ok-text.ensures.text first_whole) (c.deref.ensures ∙ c.in_ok-lines.ensures.ok second_whole) c.in_ok-next_lines.ensures
