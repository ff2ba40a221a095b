use Rattle.std.proofs.Common.{◌∙◌, ap, arith}
use Rattle.sqlite_trees.proofs.Doubt.{clean_of}
use Rattle.sqlite_store.proofs.ListingLemmas.{named_shape}
use Rattle.sqlite_store.specs.Catalog.{shape_at}
use Rattle.sqlite_store.specs.FileStore.{schema_of}
use Rattle.tl_ledger.specs.declared.schema.TheConstants.{NAME}
use Rattle.tl_store_file.proofs.opening.Blank.create.Goals as goal

pub returns-in-Ok-clause-rest : goal.returns-in-Ok-clause-rest
returns-in-Ok-clause-rest g c = λ clean. record {
  is_open = c.in-Ok.ensures.ready.is_open clean;
  sound = c.in-Ok.ensures.ready.sound clean;
  settled = c.in-Ok.ensures.ready.clean;
  tables = λ t less. named_shape t (omega arith) (schema_of c.in-Ok.store) ∙ ap (λ s. shape_at s t) c.in-Ok.ensures.schema ∙ c.args.self.lists t less;
}

pub returns-in-Ok-clause-empty : goal.returns-in-Ok-clause-empty
returns-in-Ok-clause-empty g c = λ clean. record {
  numbered = λ t less. c.in-Ok.ensures.empty (clean_of _ clean) t (omega arith);
  names = c.in-Ok.ensures.empty (clean_of _ clean) NAME (omega arith);
}
