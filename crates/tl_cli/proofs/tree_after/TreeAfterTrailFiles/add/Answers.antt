use Rattle.std.proofs.Common.{◌∷◌, sym, subst}
use Rattle.std.proofs.lemmas.Result.{on_ok_weaker}
use Rattle.tl_audit.specs.Chains.{trails_of}
use Rattle.tl_cli.specs.Epochs.{IsAfter}
use Rattle.tl_file_export.proofs.FiledLemmas.{trails_more}
use Rattle.tl_cli.proofs.tree_after.TreeAfterTrailFiles.add.Goals as goal

pub returns-clause-files : goal.returns-clause-files
returns-clause-files g =
    let s = g.see.new.self in
    on_ok_weaker g.see.result
    (λ more ts files after. subst (λ trails. IsAfter s.epoch s.seen s.tree trails) (sym (trails_more g.args.trail.now (ts ∷ files))) (more (trails_of (ts ∷ files)) after))
    g.see.ensures
