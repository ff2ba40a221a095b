use Rattle.std.proofs.Common.{[], None, refl, subst, sym, inl, inr}
use Rattle.std.proofs.lemmas.Result.{err_from_is_err_and}
use Rattle.sqlite_trees.specs.View.{IsClean}
use Rattle.tl_trail.specs.Trails.{TrailValue}
use Rattle.std.specs.Prelude.{List}
use Rattle.tl_ledger.specs.Contents.{Contents, Holds}
use Rattle.tl_core.specs.Cores.{CoreValue}
use Rattle.tl_core.specs.Reached.{IsReached}
use Rattle.tl_tree.specs.Trees.{TreeValue}
use Rattle.tl_store_history.specs.History.{PastEpoch, HasHistory}
use Rattle.tl_export.specs.Exported.{AreClean, AreTrailsOf, AreOfHistory}
use Rattle.tl_file_export.specs.Filed.{AreKept}
use Rattle.tl_file_export.proofs.CleanLemmas.{all_files}
use Rattle.tl_file_export.proofs.exporting.export_files.Goals as goal

pub returns-clause-trails : goal.returns-clause-trails
returns-clause-trails g c =
    let files = g.F.TrailFiles.files in
    let begun = c.new-splitting.result in
    let ended = c.export.new.taker in
    let none : AreKept (files begun.kept) begun.last begun.count [] =
    ([], subst (λ it. files it []) (sym c.new-splitting.ensures.0) c.requires.none, c.new-splitting.ensures.1, refl) in
    let handed = c.in_ok-export.ensures.trails in
    let kept : AreKept (files ended.kept) ended.last ended.count handed.0 = handed.1 [] none in
    let is_of : List TrailValue → Type 0 =
    λ trails. IsClean (g.S.Store.view c.export.new.store) → (contents : Contents) → Holds (g.S.Store.view c.args.store.now).trees contents → AreTrailsOf contents trails in
    let is_of_history : List TrailValue → Type 0 =
    λ trails. IsClean (g.S.Store.view c.export.new.store) → (contents : Contents) (t : TreeValue) (es : List PastEpoch) (v : CoreValue) → Holds (g.S.Store.view c.args.store.now).trees contents → HasHistory contents t es v → IsReached v → AreOfHistory es v trails in (
      kept.0,
      c.in_ok-end.ensures.files kept.0 kept.1,
      (ended.last, ended.count, kept.2),
      all_files ended.last ended.count None kept.0 kept.2 (subst AreClean (sym kept.3) handed.2),
      subst is_of (sym kept.3) handed.3,
      subst is_of_history (sym kept.3) handed.4,
    )

pub returns-in_err-export-clause-again : goal.returns-in_err-export-clause-again
returns-in_err-export-clause-again g c =
    let p = err_from_is_err_and c.from_residual.result c.from_residual.ensures.1 in
    rw (p.1, p.2) (λ clean contents t es v holds history reached size.
    elim (c.in_err-export.ensures.again clean contents t es v holds history reached size) [
      | inl outside ↦ inl outside
      | inr refused ↦ refused
    ])
