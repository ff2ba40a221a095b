use Rattle.std.proofs.Common.{ap, ◌∙◌, arith}
use Rattle.sqlite_store.specs.FileStore.{view}
use Rattle.sqlite_trees.specs.View.{IsClean}
use Rattle.tl_file_export.proofs.epochs.FileEpochsEpochs.export.Goals as goal

pub invariant_of-self : goal.invariant_of-self
invariant_of-self g c = record {
  tables = λ clean t inside.
      let first : IsClean (view c.args.self.now.store) = omega (arith, clean, c.export_files.ensures.quiet.clean) in
      ap (λ shape. shape t) c.export_files.ensures.schema.shape ∙ c.args.self.now.tables first t inside;
}
