use Rattle.tl_table.proofs.Going.{sent_goes_on}
use Rattle.tl_table.proofs.SealedTables.{table_goes_on}
use Rattle.tl_table.proofs.table.Table.submit.Goals as goal

pub invariant_of-self : goal.invariant_of-self
invariant_of-self c =
    table_goes_on (record { sealed = c.self.inside.sealed.items; current = c.self.inside.current }) _ c.submit.new.self c.self.invariant
    (sent_goes_on c.self.inside.current c.submit.new.self c.args.call c.args.segment c.submit.result c.submit.ensures.ok c.submit.ensures.err)
