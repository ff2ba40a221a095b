use Rattle.std.proofs.Common.{◌+◌, ◌∙◌, sym, arith}
use Rattle.std.proofs.lemmas.Result.{on_ok_weaker}
use Rattle.tl_file_export.specs.Filed.{AreSoMany, begun}
use Rattle.tl_file_export.proofs.FiledLemmas.{so_many_begun}
use Rattle.tl_cli.proofs.store_files.FolderFilesTrailFiles.begin.Goals as goal

pub returns-clause-files : goal.returns-clause-files
returns-clause-files g c =
    on_ok_weaker c.put_trail.result
    (λ longer files are.
    let ended = c.end.new.self in
    let there : AreSoMany ended.files ended.epochs files = c.in_ok-end.ensures.files files are in
    let more : AreSoMany (ended.files + 1) (ended.epochs + 1) (begun c.args.trail.now files) = so_many_begun ended.files ended.epochs c.args.trail.now files there in
    (more.0 ∙ sym c.in_ok-make.ensures.files ∙ sym c.put_trail.ensures.files, omega (arith, more.1, longer, c.make.ensures.epochs)))
    c.put_trail.ensures.epochs
