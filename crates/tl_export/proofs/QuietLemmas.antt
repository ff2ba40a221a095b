-- Two quiet calls, one after the other.
use Rattle.std.proofs.Common.{ℕ, arith, inl, inr}
use Rattle.sqlite_trees.specs.Tree.{Trees}
use Rattle.sqlite_trees.specs.View.{View, IsQuiet}

pub quiet_then : {S : Type 0} {view : S → View} {faults : S → ℕ} {recovers : S → Trees → Type 0} {is_shielded : S → Type 0} {old mid new : S}
    → IsQuiet view faults recovers is_shielded old mid → IsQuiet view faults recovers is_shielded mid new → IsQuiet view faults recovers is_shielded old new
quiet_then first second = record {
  shield = λ s. second.shield (first.shield s);
  clean = omega (arith, first.clean, second.clean);
  counts = omega (arith, first.counts, second.counts);
  closes = λ clean was_open. elim (first.closes (omega (arith, clean, second.clean)) was_open) [
    | inl still ↦ elim (second.closes clean still) [ inl now ↦ inl now | inr fault ↦ inr (omega (arith, fault, first.counts)) ]
    | inr fault ↦ inr (omega (arith, fault, second.counts))
  ];
  outcomes = λ db found. first.outcomes db (second.outcomes db found);
}
