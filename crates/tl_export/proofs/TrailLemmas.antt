-- Trails that were handed over one after another.
use Rattle.std.proofs.Common.{◌≡◌, ℕ, zero, suc, ◌+◌, List, [], ◌∷◌, ◌++◌, length, map, Option, Some, None, slice_get, refl, sym, ap, ◌∙◌, subst, append_assoc, arith}
use Rattle.tl_trail.specs.Trails.{TrailValue}
use Rattle.tl_audit.specs.Chains.{CleanAfter, AreCleanFiles, after_file, last_trail, opening_of}
use Rattle.tl_ledger.specs.Contents.{Contents}
use Rattle.tl_rows.specs.Rows.{fields_in}
use Rattle.tl_export.specs.declared.plan.Plan.{Plan}
use Rattle.tl_core.specs.Cores.{CoreValue}
use Rattle.tl_store_history.specs.History.{PastEpoch, core_at}
use Rattle.tl_export.specs.Epochs.{IsTrailOf, IsEndOf}
use Rattle.tl_export.specs.Exported.{TookMore, files_of, EachIsOf, EachIsEnd, first_records, IsAlong}

pub took_then : (old now new : List TrailValue → Type 0) (xs ys : List TrailValue) → TookMore old xs now → TookMore now ys new → TookMore old (xs ++ ys) new
took_then old now new xs ys first then before is = subst new (append_assoc before xs ys) (then (before ++ xs) (first before is))

-- the next trail continues the last one
clean_more : (before : Option TrailValue) (trails : List TrailValue) (last next : TrailValue) → AreCleanFiles before (files_of trails) → last_trail before trails ≡ Some last
    → CleanAfter (after_file (Some last)) (next ∷ []) → AreCleanFiles before (files_of (trails ++ next ∷ []))
clean_more before [] last next clean is_last more = (subst (λ b. CleanAfter (after_file b) (next ∷ [])) (sym is_last) more, tt)
clean_more before (t ∷ trails) last next clean is_last more = (clean.0, clean_more (Some t) trails last next clean.1 is_last more)

last_more : (before : Option TrailValue) (trails : List TrailValue) (next : TrailValue) → last_trail before (trails ++ next ∷ []) ≡ Some next
last_more before [] next = refl
last_more before (t ∷ trails) next = last_more (Some t) trails next

same_opening : (trails : List TrailValue) (next : TrailValue) (n : ℕ) → length trails ≡ n + 1 → opening_of (trails ++ next ∷ []) ≡ opening_of trails
same_opening [] next n count = absurd (omega (arith, count))
same_opening (t ∷ trails) next n count = refl

one_longer : (trails : List TrailValue) (next : TrailValue) → length (trails ++ next ∷ []) ≡ suc (length trails)
one_longer [] next = refl
one_longer (t ∷ trails) next = ap suc (one_longer trails next)

-- what holds of each trail at its place, and of the next one at the end
each_more : (P : ℕ → TrailValue → Type 0) (trails : List TrailValue) (next : TrailValue) → ((n : ℕ) (t : TrailValue) → slice_get trails n ≡ Some t → P n t) → P (length trails) next
    → (n : ℕ) (t : TrailValue) → slice_get (trails ++ next ∷ []) n ≡ Some t → P n t
each_more P [] next each there zero t is = let e : next ≡ t = cc in subst (λ x. P 0 x) e there
each_more P [] next each there (suc n) t is = absurd cc
each_more P (x ∷ trails) next each there zero t is = each zero t is
each_more P (x ∷ trails) next each there (suc n) t is = each_more (λ k u. P (suc k) u) trails next (λ k u at. each (suc k) u at) there n t is

-- the first epoch
pub along_first : (p : Plan) (t : TrailValue) → CleanAfter (after_file None) (t ∷ []) → t.opening ≡ first_records p → IsAlong p 0 (t ∷ []) t
along_first p t clean opening = record { clean = (clean, tt); count = refl; last_is = refl; opening = opening }

pub each_first : (c : Contents) (p : Plan) (t : TrailValue) → IsTrailOf c p 0 t → EachIsOf c p (t ∷ [])
each_first c p t is = each_more (IsTrailOf c p) [] t (λ n u none. absurd cc) is

-- the next one
pub along_next : (p : Plan) (n : ℕ) (trails : List TrailValue) (last next : TrailValue) → IsAlong p n trails last → CleanAfter (after_file (Some last)) (next ∷ [])
    → IsAlong p (n + 1) (trails ++ next ∷ []) next
along_next p n trails last next along more =
    record {
      clean = clean_more None trails last next along.clean along.last_is more;
      count = (let e = one_longer trails next in omega (arith, e, along.count));
      last_is = last_more None trails next;
      opening = same_opening trails next n along.count ∙ along.opening;
    }

pub each_next : (c : Contents) (p : Plan) (n : ℕ) (trails : List TrailValue) (last next : TrailValue) → IsAlong p n trails last → EachIsOf c p trails → IsTrailOf c p (n + 1) next
    → EachIsOf c p (trails ++ next ∷ [])
each_next c p n trails last next along each there = each_more (IsTrailOf c p) trails next each (subst (λ k. IsTrailOf c p k next) (sym along.count) there)

-- the same of trails that are those of a history
pub ends_first : (es : List PastEpoch) (v : CoreValue) (t : TrailValue) → IsEndOf (core_at es v 0) t → EachIsEnd es v (t ∷ [])
ends_first es v t is = each_more (λ n u. IsEndOf (core_at es v n) u) [] t (λ n u none. absurd cc) is

pub ends_next : (es : List PastEpoch) (v : CoreValue) (n : ℕ) (trails : List TrailValue) (next : TrailValue) → length trails ≡ n + 1 → EachIsEnd es v trails → IsEndOf (core_at es v (suc n)) next
    → EachIsEnd es v (trails ++ next ∷ [])
ends_next es v n trails next count each there =
    let here : suc n ≡ length trails = omega (arith, count) in
    each_more (λ k u. IsEndOf (core_at es v k) u) trails next each (subst (λ k. IsEndOf (core_at es v k) next) here there)

-- the last trail is the last
pub of_last : (p : Plan) (n : ℕ) (trails : List TrailValue) (last : TrailValue) → IsAlong p n trails last → last.opening ≡ map fields_in p.records.items
    → (t : TrailValue) → last_trail None trails ≡ Some t → t.opening ≡ map fields_in p.records.items
of_last p n trails last along is t at = let e : last ≡ t = (let both : Some last ≡ Some t = sym along.last_is ∙ at in cc) in subst (λ u. u.opening ≡ map fields_in p.records.items) e is

last_at : (before : Option TrailValue) (trails : List TrailValue) (last : TrailValue) (n : ℕ) → length trails ≡ n + 1 → last_trail before trails ≡ Some last → slice_get trails n ≡ Some last
last_at before [] last n count is = absurd (omega (arith, count))
last_at before (t ∷ []) last zero count is = is
last_at before (t ∷ []) last (suc n) count is = absurd (omega (arith, count))
last_at before (t ∷ u ∷ ts) last zero count is = absurd (omega (arith, count))
last_at before (t ∷ u ∷ ts) last (suc n) count is = last_at (Some t) (u ∷ ts) last n (omega (arith, count)) is

-- the last trail of a history opens with the records with which its last core does
pub last_opening : (p : Plan) (n : ℕ) (trails : List TrailValue) (last : TrailValue) (es : List PastEpoch) (v : CoreValue) → IsAlong p n trails last → EachIsEnd es v trails → core_at es v n ≡ v
    → last.opening ≡ v.opening
last_opening p n trails last es v along each behind =
    let ends = subst (λ u. IsEndOf u last) behind (each n last (last_at None trails last n along.count along.last_is)) in
    ap (λ (t : TrailValue). t.opening) ends.trail ∙ ends.made.later.opening
