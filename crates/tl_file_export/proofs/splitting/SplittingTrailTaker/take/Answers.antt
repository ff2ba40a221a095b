use Rattle.std.proofs.Common.{◌≡◌, ◌<◌, ◌+◌, ◌∷◌, [], Some, subst, sym}
use Rattle.tl_trail.specs.declared.chain.TheConstants.{MAX_TRAILS}
use Rattle.tl_export.specs.Exported.{TookMore}
use Rattle.tl_file_export.specs.declared.splitting.Ending.{Ending}
use Rattle.tl_file_export.specs.Filed.{GoesOn, AreKept}
use Rattle.tl_file_export.proofs.FiledLemmas.{kept_begun, kept_more}
use Rattle.tl_file_export.proofs.splitting.SplittingTrailTaker.take.Goals as goal

pub returns-then-goes_on-clause-taken : goal.returns-then-goes_on-clause-taken
returns-then-goes_on-clause-taken g c =
    let s = c.args.self.now in
    let t = c.args.trail.now in
    let old = g.F.TrailFiles.files s.kept in
    let new = g.F.TrailFiles.files c.add.new.self in
    let on = c.goes_on.ensures.yes c.if-goes_on.true in
    subst (λ (e : Ending). TookMore (AreKept old s.last s.count) (t ∷ []) (AreKept new (Some e) (s.count + 1))) (sym c.in_ok-ending.ensures)
    (kept_more old new s.last s.count on.2 t c.in_ok-add.ensures.files on.0 on.1 on.3 on.4)

pub returns-clause-taken : goal.returns-clause-taken
returns-clause-taken g c =
    let s = c.args.self.now in
    let t = c.args.trail.now in
    let old = g.F.TrailFiles.files s.kept in
    let new = g.F.TrailFiles.files c.begin.new.self in
    let ends : (e : Ending) → 0 < s.count → s.count < MAX_TRAILS → s.last ≡ Some e → GoesOn e t → ⊥ =
    λ e some room is on. let yes = c.goes_on.ensures.no e some room is on in let no = c.if-goes_on.false in cc in
    subst (λ (e : Ending). TookMore (AreKept old s.last s.count) (t ∷ []) (AreKept new (Some e) 1)) (sym c.in_ok-ending.ensures)
    (kept_begun old new s.last s.count t c.in_ok-begin.ensures.files ends)
