use Rattle.std.proofs.Common.{◌∙◌, sym}
use Rattle.tl_generations.proofs.Joined.{starts}
use Rattle.tl_generations.proofs.succession.Succession.new.Goals as goal

pub invariant_of-result : goal.invariant_of-result
invariant_of-result c = starts c.in_ok-first.first c.in_ok-last.last (c.in_ok-last.ensures ∙ sym c.in_ok-first.ensures)
