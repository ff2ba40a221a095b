-- A database whose form is another has the same rows.
use Rattle.std.proofs.Common.{◌≡◌, ◌<◌, ℕ, ◌∙◌, ne_eqb, arith}
use Rattle.sqlite_trees.specs.Tree.{Trees}
use Rattle.sqlite_trees.specs.Objects.{version_tree, version_rows, with_version}
use Rattle.tl_ledger.specs.Contents.{Contents, Holds}
use Rattle.tl_ledger.specs.declared.schema.TheConstants.{NAME, TABLES}

pub same_table : (db : Trees) (form t : ℕ) → t < TABLES → with_version db form t ≡ db t
same_table db form t less = rw (ne_eqb t version_tree (λ same. absurd (omega (arith, same, less))))

pub same_rows : (db : Trees) (form : ℕ) (c : Contents) → Holds db c → Holds (with_version db form) c
same_rows db form c holds = record {
  numbered = λ t less. same_table db form t (omega (arith, less)) ∙ holds.numbered t less;
  names = same_table db form NAME (omega arith) ∙ holds.names;
}
