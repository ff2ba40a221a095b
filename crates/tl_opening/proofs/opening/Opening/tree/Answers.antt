use Rattle.std.proofs.Common.{ap, ◌∙◌}
use Rattle.std.specs.Arc.{arc_value}
use Rattle.tl_opening.specs.Opening.{records_behind, epochs_of}
use Rattle.tl_opening.proofs.BehindLemmas.{tree_of}
use Rattle.tl_opening.proofs.opening.Opening.tree.Goals as goal

pub returns : goal.returns
returns c =
    c.put_each.ensures ∙ ap (λ t. tree_of t.parents (records_behind t.records (epochs_of c.deref-2.result.now))) (c.in-Ok.ensures.ok ∙ c.deref.ensures)
    ∙ ap (λ left. tree_of (arc_value c.self.inside.base).parents (records_behind (arc_value c.self.inside.base).records (epochs_of left))) c.deref-2.ensures.value ∙ c.self.view_is
