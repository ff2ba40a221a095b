use Rattle.std.proofs.Common.{List}
use Rattle.tl_tree.specs.Trees.{TreeValue}
use Rattle.tl_core.specs.Cores.{CoreValue}
use Rattle.tl_core.specs.Reached.{IsReached}
use Rattle.tl_store_history.specs.History.{PastEpoch, HasHistory, core_at}
use Rattle.sqlite_trees.specs.View.{IsClean, IsQuiet, KeepsSchema}
use Rattle.tl_trail.specs.Trails.{TrailValue}
use Rattle.tl_ledger.specs.Contents.{Contents, Holds, OnlyReads}
use Rattle.tl_export.specs.Plans.{IsPlanOf}
use Rattle.tl_export.specs.Epochs.{IsEndOf}
use Rattle.tl_export.specs.Exported.{TookMore, IsAlong, EachIsOf, EachIsEnd}
use Rattle.tl_export.proofs.exporting.hand_over_all.Given as goal

-- the trails up to that of this epoch were handed over
abbrev pub invariant-loop-epoch : goal.invariant-loop-epoch
invariant-loop-epoch g l =
    ((trails : List TrailValue) × TookMore (g.K.TrailTaker.taken l.fn.taker) trails (g.K.TrailTaker.taken l.taker) × IsAlong l.plan l.epoch trails l.last
    × (IsClean (g.S.Store.view l.store) → (c : Contents) → Holds (g.S.Store.view l.fn.store).trees c → IsPlanOf c l.plan → EachIsOf c l.plan trails)
    × (IsClean (g.S.Store.view l.store) → (c : Contents) (t : TreeValue) (es : List PastEpoch) (v : CoreValue) → Holds (g.S.Store.view l.fn.store).trees c → IsPlanOf c l.plan → HasHistory c t es v → IsReached v
    → EachIsEnd es v trails × IsEndOf (core_at es v l.epoch) l.last))
    × (IsClean (g.S.Store.view l.store) → OnlyReads (g.S.Store.view l.fn.store) (g.S.Store.view l.store))
    × KeepsSchema (g.S.Store.view l.fn.store) (g.S.Store.view l.store)
    × IsQuiet g.S.Store.view g.S.Store.faults g.S.Store.recovers g.S.Store.is_shielded l.fn.store l.store
