use Rattle.std.proofs.Common.{◌≡◌, sym, subst, true}
use Rattle.std.proofs.lemmas.Bool.{not-false}
use Rattle.sqlite_store.specs.FileStore.{view}
use Rattle.sqlite_trees.specs.View.{IsClean}
use Rattle.tl_ledger.specs.Contents.{Holds, no_contents}
use Rattle.tl_file_journal.proofs.volumes.is_begun.Goals as goal

pub returns-in_ok-is_unfounded-in-Store-clause-none : goal.returns-in_ok-is_unfounded-in-Store-clause-none
returns-in_ok-is_unfounded-in-Store-clause-none g c = λ no rested is clean.
    let yes : c.in_ok-is_unfounded-in-Store.is_unfounded ≡ true = not-false _ no in
    let same : c.in_ok-is_unfounded-in-Store.rested ≡ rested = cc in
    subst (λ x. Holds (view x.store).committed no_contents) same (c.in_ok-is_unfounded-in-Store.ensures.none yes (subst (λ x. IsClean (view x.store)) (sym same) clean))
