-- The end records.
use Rattle.std.proofs.Common.{◌≡◌, ℕ, ◌+◌, ◌<◌, [], length, get_or, true, false, sym, ap, ◌∙◌, subst, inl, inr, arith}
use Rattle.std.proofs.lemmas.Bool.{both_ways, cases_lt}
use Rattle.std.specs.Cmp.Lexicographic.{pointwise}
use Rattle.std.specs.Cmp.Rules.{signed_items}
use Rattle.std.specs.Ordering.{int_eq}
use Rattle.tl_tree.specs.Records.{Records, record_at}
use Rattle.tl_tree_locking.specs.History.{record_now, records_now}
use Rattle.tl_tree_locking.proofs.Records.{record_at-records_now}
use Rattle.tl_trail.specs.Trails.{TrailValue, IsTrail}
use Rattle.tl_trail.specs.Clean.{EndsSo}

module _ (t : TrailValue) (trail : IsTrail t) (ends : Records) (ends_are : ends ≡ t.ends) (now : Records) (now_is : now ≡ records_now t.past t.opening) (x : ℕ)
    (inside : x < length t.parents) where
  record_is : get_or now x [] ≡ record_now t.past t.opening x
  record_is = let size = trail.size in ap (λ rs. record_at rs x) now_is ∙ record_at-records_now t.past t.opening x (omega arith)

  pub ends_so : pointwise int_eq (get_or ends x []) (get_or now x []) ≡ true → EndsSo t x
  ends_so same = ap (λ rs. record_at rs x) (sym ends_are) ∙ (signed_items (get_or ends x []) (get_or now x [])).0 same ∙ record_is

  pub ends_other : pointwise int_eq (get_or ends x []) (get_or now x []) ≡ false → ¬ EndsSo t x
  ends_other other so =
      absurd (both_ways (pointwise int_eq (get_or ends x []) (get_or now x [])) other
      ((signed_items (get_or ends x []) (get_or now x [])).1 (ap (λ rs. record_at rs x) ends_are ∙ so ∙ sym record_is)))

pub ends_more : (t : TrailValue) (x : ℕ) → ((y : ℕ) → y < x → EndsSo t y) → EndsSo t x → (y : ℕ) → y < x + 1 → EndsSo t y
ends_more t x before here y lt = elim (cases_lt y x) [
  | inl lower ↦ before y lower
  | inr least ↦ let e : x ≡ y = omega arith in subst (EndsSo t) e here
]
