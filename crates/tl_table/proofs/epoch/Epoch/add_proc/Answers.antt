use Rattle.tl_table.proofs.Going.{added_goes_on}
use Rattle.tl_table.proofs.epoch.Epoch.add_proc.Goals as goal

pub returns-clause-goes_on : goal.returns-clause-goes_on
returns-clause-goes_on c = rw (← c.self.view_is) (added_goes_on c.add_proc.result (record { number = c.self.inside.number; core = c.self.inside.running; sessions = c.self.inside.sessions; owners = c.self.inside.owners.items }) c.add_proc.new.self _ c.add_proc.ensures.last c.add_proc.ensures.err)
