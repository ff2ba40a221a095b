-- Changes of records, one after another.
use Rattle.std.proofs.Common.{ℕ, ◌+◌, ◌<◌, List, [], ◌∷◌, ◌++◌, length, arith, below_more, inl, inr, refl}
use Rattle.std.specs.Prelude.{◌⊎◌, Contains}
use Rattle.std.proofs.lemmas.List.Elements.{All-nil, All-push, Contains-append_left, Contains-push}
use Rattle.tl_tree.specs.Records.{Records}
use Rattle.tl_ledger.specs.declared.rows.ChangedRecord.{ChangedRecord}
use Rattle.tl_rows.specs.Changes.{change_to, Stays, IsChange, LeadsBelow}

pub leads_none : (before now : Records) → LeadsBelow 0 before now []
leads_none before now = record { each = All-nil (IsChange now); others = λ x lt. absurd (omega arith) }

-- one more change
kept : (before now : Records) (changes : List ChangedRecord) (c : ChangedRecord) (x : ℕ) → Stays before now x ⊎ Contains changes (change_to now x) → Stays before now x ⊎ Contains (changes ++ c ∷ []) (change_to now x)
kept before now changes c x (inl stays) = inl stays
kept before now changes c x (inr found) = inr (Contains-append_left changes (c ∷ []) (change_to now x) found)

pub leads_push : (n : ℕ) (before now : Records) (changes : List ChangedRecord) → LeadsBelow n before now changes → n < length now → LeadsBelow (n + 1) before now (changes ++ change_to now n ∷ [])
leads_push n before now changes so_far inside = record {
  each = All-push (IsChange now) changes (change_to now n) so_far.each (record { inside = inside; same = refl });
  others = below_more (λ x. Stays before now x ⊎ Contains (changes ++ change_to now n ∷ []) (change_to now x)) n
      (λ x lt. kept before now changes (change_to now n) x (so_far.others x lt)) (inr (Contains-push changes (change_to now n)));
}

-- a node whose record doesn't change
pub leads_stay : (n : ℕ) (before now : Records) (changes : List ChangedRecord) → LeadsBelow n before now changes → Stays before now n → LeadsBelow (n + 1) before now changes
leads_stay n before now changes so_far stays = record {
  each = so_far.each;
  others = below_more (λ x. Stays before now x ⊎ Contains changes (change_to now x)) n so_far.others (inl stays);
}
