use Rattle.std.proofs.Common.{◌⊎◌, Result, Ok, Err, IfOk, IfErr, inr}
use Rattle.std.proofs.lemmas.Result.{IfOk-weaker, err_from_is_err_and}
use Rattle.sqlite_trees.specs.Tree.{Trees}
use Rattle.sqlite_trees.specs.View.{IsClean}
use Rattle.tl_core.specs.Cores.{CoreValue}
use Rattle.tl_core.specs.Reached.{IsReached}
use Rattle.tl_ledger.specs.Contents.{Contents, Holds}
use Rattle.tl_store.specs.declared.fault.StoreFault.{StoreFault}
use Rattle.tl_store.specs.declared.stored.Stored.{Stored}
use Rattle.tl_store.specs.Faults.{IsReadFault, IsOutOfMemory}
use Rattle.tl_store.specs.Stored.{AreStored}
use Rattle.tl_store.specs.Recovered.{AreOfCore, IsStoreOf, IsMadeAgain}
use Rattle.tl_store.proofs.DiskLemmas.{rebuilt_again}
use Rattle.tl_store.proofs.recovering.recover.Goals as goal

pub returns-clause-recovered : goal.returns-clause-recovered
returns-clause-recovered g c =
    IfOk-weaker c.rebuild.result _ _
    (λ r is clean contents holds. record { rows = c.in_ok-stored.stored; stored = c.in_ok-stored.ensures.stored clean contents holds; rebuilt = is })
    c.rebuild.ensures.rebuilt

-- the rows that were read are those of the core
read_again : {X : Type 0} (result : Result X StoreFault) (rows : Stored) → ((v : CoreValue) → IsReached v → AreOfCore rows v → IfErr result IsOutOfMemory)
    → (clean : Type 0) (db : Trees) → (clean → (c : Contents) → Holds db c → AreStored c rows)
    → IfErr result (λ e. clean → (c : Contents) (v : CoreValue) → Holds db c → IsReached v → IsStoreOf c v → IsReadFault e ⊎ IsOutOfMemory e)
read_again (Ok x) rows again clean db stored = tt
read_again (Err e) rows again clean db stored = λ is_clean c v holds reached of. inr (again v reached (of rows (stored is_clean c holds)))

pub returns-clause-again : goal.returns-clause-again
returns-clause-again g c =
    read_again c.rebuild.result c.in_ok-stored.stored c.rebuild.ensures.again (IsClean (g.S.Store.view c.read_stored.new.store)) (g.S.Store.view c.args.store.now).trees c.in_ok-stored.ensures.stored

-- the core that was made again is that of the rows
same_again : {X : Type 0} (result : Result X StoreFault) (P : CoreValue → X → Type 0) (rows : Stored) → ((v : CoreValue) → IsReached v → AreOfCore rows v → IfOk result (P v))
    → (clean : Type 0) (db : Trees) → (clean → (c : Contents) → Holds db c → AreStored c rows)
    → IfOk result (λ r. clean → (c : Contents) (v : CoreValue) → Holds db c → IsReached v → IsStoreOf c v → P v r)
same_again (Ok r) P rows same clean db stored = λ is_clean c v holds reached of. same v reached (of rows (stored is_clean c holds))
same_again (Err e) P rows same clean db stored = tt

pub returns-clause-same : goal.returns-clause-same
returns-clause-same g c =
    same_again c.rebuild.result (λ v r. IsMadeAgain v r.core.seen) c.in_ok-stored.stored c.rebuild.ensures.same (IsClean (g.S.Store.view c.read_stored.new.store)) (g.S.Store.view c.args.store.now).trees c.in_ok-stored.ensures.stored

pub returns-in_err-stored-clause-readable : goal.returns-in_err-stored-clause-readable
returns-in_err-stored-clause-readable g c =
    let p = err_from_is_err_and c.from_residual.result c.from_residual.ensures.1 in
    rw (p.1, p.2) (λ clean contents v holds readable reached of. c.in_err-stored.ensures.again clean contents holds readable)

pub returns-clause-readable : goal.returns-clause-readable
returns-clause-readable g c =
    rebuilt_again c.rebuild.result c.in_ok-stored.stored c.rebuild.ensures.again (IsClean (g.S.Store.view c.read_stored.new.store)) (g.S.Store.view c.args.store.now).trees c.in_ok-stored.ensures.stored
