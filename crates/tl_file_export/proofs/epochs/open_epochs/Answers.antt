use Rattle.tl_file_export.proofs.epochs.open_epochs.Goals as goal

pub invariant_of-result : goal.invariant_of-result
invariant_of-result c = record { tables = λ clean t less. (c.in-Store.rested.rests clean).tables t less }
