use Rattle.tl_table.proofs.Going.{added_goes_on}
use Rattle.tl_table.proofs.epoch.Epoch.add_procs.Goals as goal

pub returns-clause-goes_on : goal.returns-clause-goes_on
returns-clause-goes_on c = rw (← c.self.view_is) (added_goes_on c.add_procs.result (record { number = c.self.inside.number; core = c.self.inside.running; sessions = c.self.inside.sessions; owners = c.self.inside.owners.items }) c.add_procs.new.self _ c.add_procs.ensures.added c.add_procs.ensures.err)
