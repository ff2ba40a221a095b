use Rattle.std.proofs.Common.{◌≡◌, ap, sym, subst, ◌∙◌, arith}
use Rattle.sqlite_store.specs.FileStore.{view}
use Rattle.sqlite_trees.specs.Objects.{version_tree}
use Rattle.sqlite_trees.specs.Tree.{Trees}
use Rattle.sqlite_trees.specs.View.{View, IsClean}
use Rattle.tl_ledger.specs.Contents.{Holds, no_contents}
use Rattle.tl_store_file.specs.declared.form.TheConstants.{FORM}
use Rattle.tl_store_file.proofs.FormLemmas.{same_rows}
use Rattle.tl_store_file.proofs.opening.Blank.make.Goals as goal

pub returns-clause-empty : goal.returns-clause-empty
returns-clause-empty g c = λ clean.
    let same = c.in_ok-store.ensures clean in
    let formed = subst IsClean same clean in
    subst (λ (v : View). Holds v.committed no_contents) (sym same)
    (subst (λ (db : Trees). Holds db no_contents) (sym (c.in_ok-formed.ensures.form formed)) (same_rows _ FORM no_contents (c.in_ok-create.ensures.empty (omega (arith, formed, c.in_ok-formed.ensures.clean)))))

pub returns-clause-form : goal.returns-clause-form
returns-clause-form g c = λ clean.
    let same = c.in_ok-store.ensures clean in
    ap (λ (v : View). v.committed version_tree) same ∙ ap (λ (db : Trees). db version_tree) (c.in_ok-formed.ensures.form (subst IsClean same clean))
