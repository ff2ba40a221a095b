use Rattle.std.proofs.Common.{◌+◌, ◌∷◌, ◌∙◌, sym, arith}
use Rattle.std.proofs.lemmas.Result.{on_ok_weaker}
use Rattle.tl_file_export.specs.Filed.{AreSoMany, with_more}
use Rattle.tl_file_export.proofs.FiledLemmas.{so_many_more}
use Rattle.tl_cli.proofs.store_files.FolderFilesTrailFiles.add.Goals as goal

pub returns-clause-files : goal.returns-clause-files
returns-clause-files g c =
    let s = c.args.self.now in
    on_ok_weaker c.put_trail.result
    (λ longer ts files are.
    let more : AreSoMany s.files (s.epochs + 1) (with_more c.args.trail.now (ts ∷ files)) = so_many_more s.files s.epochs c.args.trail.now ts files are in
    (more.0 ∙ sym c.put_trail.ensures.files, omega (arith, more.1, longer)))
    c.put_trail.ensures.epochs
