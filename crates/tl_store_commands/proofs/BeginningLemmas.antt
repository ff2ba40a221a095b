-- A store that was made of a tree has the rows of its core.
use Rattle.std.proofs.Common.{◌≡◌, [], sym, subst}
use Rattle.sqlite_trees.specs.Tree.{Trees}
use Rattle.tl_tree.specs.Trees.{TreeValue}
use Rattle.tl_core.specs.Cores.{CoreState, opened}
use Rattle.tl_history.specs.declared.history.TheConstants.{MAX_EVENTS}
use Rattle.tl_ledger.specs.declared.founding.Founding.{Founding}
use Rattle.tl_ledger.specs.Contents.{Holds, no_contents}
use Rattle.tl_ledger.specs.News.{after_founding}
use Rattle.tl_store_laws.specs.Growing.{IsLedgerOf}
use Rattle.tl_store_laws.proofs.Founded.{founded}
use Rattle.tl_store_commands.specs.Beginning.{IsFirst, BeginsWith}

pub begins_with : (t : TreeValue) (core : CoreState) (committed : Trees) (first : Founding) → core ≡ opened t [] MAX_EVENTS → IsFirst t first
    → Holds committed (after_founding no_contents first) → BeginsWith t core committed
begins_with t core committed first is is_first holds = record {
  core_is = is;
  first = first;
  is_first = is_first;
  holds = holds;
  rows = subst (λ (s : CoreState). IsLedgerOf (after_founding no_contents first) s.seen) (sym is) (founded t MAX_EVENTS first is_first.parents is_first.records is_first.procedures);
}
