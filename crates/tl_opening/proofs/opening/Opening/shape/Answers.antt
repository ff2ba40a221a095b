use Rattle.std.specs.Arc.{arc_value}
use Rattle.tl_opening.specs.Opening.{epochs_of}
use Rattle.tl_opening.proofs.BehindLemmas.{behind-whole}
use Rattle.tl_opening.proofs.opening.Opening.shape.Goals as goal

pub returns-clause-whole : goal.returns-clause-whole
returns-clause-whole c = rw (← c.self.view_is) (behind-whole (arc_value c.self.inside.base) (epochs_of c.self.inside.left.items) (rw c.deref.ensures at c.shape.ensures.whole))
