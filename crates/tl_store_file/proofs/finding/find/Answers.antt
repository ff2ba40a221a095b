use Rattle.std.proofs.Common.{◌∙◌, ap, arith}
use Rattle.sqlite_store.proofs.ListingLemmas.{named_shape}
use Rattle.sqlite_store.specs.Catalog.{shape_at}
use Rattle.sqlite_store.specs.FileStore.{schema_of}
use Rattle.tl_store_file.proofs.finding.find.Goals as goal

pub invariant_of-result-in-Ok-open : goal.invariant_of-result-in-Ok-open
invariant_of-result-in-Ok-open g c = record {
  rests = λ clean. record {
    is_open = c.in-Ok-open.ensures.ready.is_open clean;
    sound = c.in-Ok-open.ensures.ready.sound clean;
    settled = c.in-Ok-open.ensures.ready.clean;
    tables = λ t less. named_shape t (omega arith) (schema_of c.in-Ok-open.store) ∙ ap (λ s. shape_at s t) c.in-Ok-open.ensures.schema ∙ ap (λ s. shape_at s t) c.read_tables.ensures.schema ∙ c.in_ok-unopened.ensures.lists t less;
  };
}

pub invariant_of-result : goal.invariant_of-result
invariant_of-result g c = record {
  usable = c.in_ok-found.ensures.usable;
  lists = λ t less. ap (λ s. shape_at s t) c.read_tables.ensures.schema ∙ c.in_ok-unopened.ensures.lists t less;
}
