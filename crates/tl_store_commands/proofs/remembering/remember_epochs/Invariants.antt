use Rattle.std.proofs.Common.{◌≡◌, ◌≤◌, map}
use Rattle.sqlite_trees.specs.View.{IsClean, KeepsSchema, doubt}
use Rattle.tl_ledger.specs.Contents.{Contents, Holds, OnlyReads}
use Rattle.tl_ledger.specs.declared.schema.TheConstants.{SEAL}
use Rattle.tl_ledger.specs.News.{IsMarked, seal_columns}
use Rattle.tl_store_commands.proofs.KeyedLemmas.{FindsUpTo}
use Rattle.tl_keys.specs.declared.index.KeyIndex.{KeyIndex}
use Rattle.tl_keys.specs.Keys.{AllUnder}
use Rattle.tl_store_commands.specs.Remembering.{IsKnown}
use Rattle.tl_store_commands.proofs.remembering.remember_epochs.Given as goal

-- all that is remembered so far was remembered before, or is in the store, and what the epochs so far have is remembered
abbrev pub invariant-loop-epoch : goal.invariant-loop-epoch
invariant-loop-epoch g l =
    (IsClean (g.S.Store.view l.store) → (c : Contents) → Holds (g.S.Store.view l.fn.store).trees c → IsMarked c l.marks
    → (start : KeyIndex) → AllUnder (IsKnown start l.before c) l.fn.index → AllUnder (IsKnown start l.before c) l.now)
    × (IsClean (g.S.Store.view l.store) → (c : Contents) → Holds (g.S.Store.view l.fn.store).trees c → IsMarked c l.marks
    → (c SEAL ≡ map seal_columns l.seals.items) × FindsUpTo c l.first l.epoch l.now)
    × (IsClean (g.S.Store.view l.store) → OnlyReads (g.S.Store.view l.fn.store) (g.S.Store.view l.store))
    × KeepsSchema (g.S.Store.view l.fn.store) (g.S.Store.view l.store)
    × (doubt (g.S.Store.view l.fn.store).is_clean ≤ doubt (g.S.Store.view l.store).is_clean)
