use Rattle.tl_core.proofs.AddProcLemmas.{keeps_whole, seen_added, state_added, added}
use Rattle.tl_core.proofs.interleaving.Core.add_proc.Goals as goal

pub invariant_of-self : goal.invariant_of-self
invariant_of-self c =
    let more = added c.add.result c.self.inside.procedures c.add.new.self _ c.add.ensures.last c.add.ensures.err in
    rw (more.1) (keeps_whole _ more.0 _ _ _ _ _ _ c.self.invariant)

pub returns-clause-last : goal.returns-clause-last
returns-clause-last c = rw (← c.self.view_is) (state_added _ _ _ c.add.result (seen_added _ _ _ _ _ _ _ c.self.invariant c.add.result c.add.new.self _ c.add.ensures.last))
