-- Calls that are numbered in order.
use Rattle.std.proofs.Common.{◌≡◌, ℕ, ◌+◌, ◌<◌, pos, List, length, map, get_or, sym, ap, ◌∙◌, inl, inr, arith}
use Rattle.std.proofs.lemmas.Bool.{cases_eq}
use Rattle.std.proofs.lemmas.List.{get_or-map}
use Rattle.tl_ledger.specs.declared.rows.CallRow.{CallRow}

pub numbered_more : (calls : List CallRow) (k : ℕ) (row : CallRow) → k < length calls → row ≡ get_or calls k row → row.number ≡ pos k
    → ((n : ℕ) → n < k → get_or (map (λ r. r.number) calls) n (pos 0) ≡ pos n) → (n : ℕ) → n < k + 1 → get_or (map (λ r. r.number) calls) n (pos 0) ≡ pos n
numbered_more calls k row within is here before n lt = elim (cases_eq n k) [
  | inl same ↦
      ap (λ m. get_or (map (λ r. r.number) calls) m (pos 0)) same ∙ get_or-map (λ (r : CallRow). r.number) calls k row (pos 0) within ∙ ap (λ (r : CallRow). r.number) (sym is) ∙ here ∙ ap pos (sym same)
  | inr other ↦ before n (omega arith)
]
