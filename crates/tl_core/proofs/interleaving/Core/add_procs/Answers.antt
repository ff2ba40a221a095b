use Rattle.tl_core.proofs.AddProcLemmas.{keeps_whole, seen_added, state_added, added}
use Rattle.tl_core.proofs.interleaving.Core.add_procs.Goals as goal

pub invariant_of-self : goal.invariant_of-self
invariant_of-self c =
    let more = added c.add_all.result c.self.inside.procedures c.add_all.new.self _ c.add_all.ensures.added c.add_all.ensures.err in
    rw (more.1) (keeps_whole _ more.0 _ _ _ _ _ _ c.self.invariant)

pub returns-clause-added : goal.returns-clause-added
returns-clause-added c = rw (← c.self.view_is) (state_added _ _ _ c.add_all.result (seen_added _ _ _ _ _ _ _ c.self.invariant c.add_all.result c.add_all.new.self _ c.add_all.ensures.added))
