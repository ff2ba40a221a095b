use Rattle.std.proofs.Common.{List, sym, subst, ap}
use Rattle.std.specs.Prelude.{vec_capacity}
use Rattle.tl_table.specs.Epochs.{EpochValue}
use Rattle.tl_table.specs.Stored.{IsTable}
use Rattle.tl_table.proofs.SealedTables.{table_begins}
use Rattle.tl_table.proofs.table.Table.new.Goals as goal

pub invariant_of-result : goal.invariant_of-result
invariant_of-result c =
    let capacity = vec_capacity c.in-Ok.sealed in
    subst (λ (es : List EpochValue). IsTable (record { sealed = es; current = c.in-Ok-new-2.current }) capacity) (sym c.in-Ok.ensures.items)
    (table_begins c.in-Ok-new-2.current capacity (ap (λ e. e.number) c.in-Ok-new-2.ensures.ok) c.in-Ok.ensures.capacity)
