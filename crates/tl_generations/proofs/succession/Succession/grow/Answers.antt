use Rattle.tl_generations.proofs.Joined.{grows}
use Rattle.tl_generations.proofs.succession.Succession.grow.Goals as goal

pub invariant_of-self : goal.invariant_of-self
invariant_of-self c =
    grows c.self.inside.first c.self.inside.last c.grow.new.self c.args.parents.now c.grow.result c.self.invariant c.grow.ensures.grown c.grow.ensures.err
