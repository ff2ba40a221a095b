use Rattle.tl_journal.proofs.desk.Desk.hold.Goals as goal

pub returns-in-Some-clause-held : goal.returns-in-Some-clause-held
returns-in-Some-clause-held g c = rw c.in-Some.is c.held_after.ensures
