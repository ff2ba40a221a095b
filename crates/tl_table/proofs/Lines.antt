-- Epochs that follow one another, as a list and as worlds of the protocol.
use Rattle.std.proofs.Common.{◌≡◌, ℕ, zero, suc, ◌+◌, List, [], ◌∷◌, ◌++◌, length, map, refl, sym, ap, ◌∙◌, subst, arith, append_assoc}
use Rattle.std.specs.Prelude.{Some, slice_get}
use Rattle.std.proofs.lemmas.List.{append-nil}
use Rattle.std.proofs.lemmas.Option.{none-some, same_Some}
use Rattle.tl_tree.specs.Records.{Records}
use Rattle.tl_tree_locking.specs.History.{records_now}
use Rattle.tl_tree_locking.specs.Epochs.{left_by, FollowOn, AreAtRest}
use Rattle.tl_procedures.specs.Names.{Named, BeginsWith}
use Rattle.tl_table.specs.Epochs.{EpochValue, seen, GoesOn, epoch_after}
use Rattle.tl_table.specs.Tables.{epoch_world, records_after, procedures_after, IsNext, IsRested, InLine}

pub begins_same : (xs : List Named) → BeginsWith xs xs
begins_same xs = ([], sym (append-nil xs))

pub begins_on : (xs ys zs : List Named) → BeginsWith xs ys → BeginsWith ys zs → BeginsWith xs zs
begins_on xs ys zs a b = (a.0 ++ b.0, b.1 ∙ ap (λ l. l ++ b.0) a.1 ∙ append_assoc xs a.0 b.0)

-- an epoch that goes on stays the next one
pub next_goes_on : (n : ℕ) (parents : List ℕ) (opening : Records) (procedures : List Named) (e f : EpochValue) → IsNext n parents opening procedures e → GoesOn e f → IsNext n parents opening procedures f
next_goes_on n parents opening procedures e f h g = record {
  number = g.number ∙ h.number;
  parents = g.parents ∙ h.parents;
  opening = g.opening ∙ h.opening;
  procedures = begins_on procedures (seen e).procedures (seen f).procedures h.procedures g.procedures;
}

-- the epoch that follows is the next one after it
pub after_next : (n : ℕ) (parents : List ℕ) (opening : Records) (procedures : List Named) (e : EpochValue) → IsNext n parents opening procedures e
    → IsNext (n + 1) parents (records_now (seen e).past (seen e).opening) (seen e).procedures (epoch_after e)
after_next n parents opening procedures e h = record {
  number = ap (λ k. k + 1) h.number;
  parents = h.parents;
  opening = refl;
  procedures = begins_same (seen e).procedures;
}

pub records_after-more : (opening : Records) (es : List EpochValue) (e : EpochValue) → records_after opening (es ++ e ∷ []) ≡ records_now (seen e).past (seen e).opening
records_after-more opening [] e = refl
records_after-more opening (f ∷ es) e = records_after-more (records_now (seen f).past (seen f).opening) es e

pub procedures_after-more : (procedures : List Named) (es : List EpochValue) (e : EpochValue) → procedures_after procedures (es ++ e ∷ []) ≡ (seen e).procedures
procedures_after-more procedures [] e = refl
procedures_after-more procedures (f ∷ es) e = procedures_after-more (seen f).procedures es e

-- one more epoch, at rest, is appended
pub line_more : (n k : ℕ) (parents : List ℕ) (opening : Records) (procedures : List Named) (es : List EpochValue) (e : EpochValue) → InLine n parents opening procedures es
    → k ≡ n + length es → IsNext k parents (records_after opening es) (procedures_after procedures es) e → IsRested e
    → InLine n parents opening procedures (es ++ e ∷ [])
line_more n k parents opening procedures [] e line at next rested = (subst (λ m. IsNext m parents opening procedures e) (omega (arith, at)) next, rested, tt)
line_more n k parents opening procedures (f ∷ es) e line at next rested =
    (line.0, line.1, line_more (n + 1) k parents (records_now (seen f).past (seen f).opening) (seen f).procedures es e line.2 (omega (arith, at)) next rested)

-- without the last epoch, that one is the next
pub line_less : (n k : ℕ) (parents : List ℕ) (opening : Records) (procedures : List Named) (es : List EpochValue) (e : EpochValue) → InLine n parents opening procedures (es ++ e ∷ [])
    → k ≡ n + length es → InLine n parents opening procedures es × IsNext k parents (records_after opening es) (procedures_after procedures es) e
line_less n k parents opening procedures [] e line at = (tt, subst (λ m. IsNext m parents opening procedures e) (omega (arith, at)) line.0)
line_less n k parents opening procedures (f ∷ es) e line at =
    let rest = line_less (n + 1) k parents (records_now (seen f).past (seen f).opening) (seen f).procedures es e line.2 (omega (arith, at)) in
    ((line.0, line.1, rest.0), rest.1)

-- each epoch's number is its position
pub number_at : (n : ℕ) (parents : List ℕ) (opening : Records) (procedures : List Named) (es : List EpochValue) (i : ℕ) (e : EpochValue) → InLine n parents opening procedures es
    → slice_get es i ≡ Some e → e.number ≡ n + i
number_at n parents opening procedures [] i e line at = absurd (none-some e at)
number_at n parents opening procedures (f ∷ es) zero e line at = let same = same_Some f e at in let own = line.0.number in sym (ap (λ x. x.number) same) ∙ (omega (arith, own))
number_at n parents opening procedures (f ∷ es) (suc i) e line at = let later = number_at (n + 1) parents (records_now (seen f).past (seen f).opening) (seen f).procedures es i e line.2 at in omega (arith, later)

-- ---- as worlds

pub line_follows : (n : ℕ) (parents : List ℕ) (opening : Records) (procedures : List Named) (es : List EpochValue) → InLine n parents opening procedures es → FollowOn parents opening (map epoch_world es)
line_follows n parents opening procedures [] line = tt
line_follows n parents opening procedures (e ∷ es) line =
    (line.0.parents, line.0.opening, line_follows (n + 1) parents (records_now (seen e).past (seen e).opening) (seen e).procedures es line.2)

pub line_rests : (n : ℕ) (parents : List ℕ) (opening : Records) (procedures : List Named) (es : List EpochValue) → InLine n parents opening procedures es → AreAtRest (map epoch_world es)
line_rests n parents opening procedures [] line = tt
line_rests n parents opening procedures (e ∷ es) line =
    (line.1.sound, line.1.done, line_rests (n + 1) parents (records_now (seen e).past (seen e).opening) (seen e).procedures es line.2)

pub records_left : (opening : Records) (es : List EpochValue) → records_after opening es ≡ left_by opening (map epoch_world es)
records_left opening [] = refl
records_left opening (e ∷ es) = records_left (records_now (seen e).past (seen e).opening) es
