-- Records with zeros for the nodes behind them.
use Rattle.std.proofs.Common.{◌≡◌, ℕ, zero, suc, ◌+◌, ◌-◌, ◌≤◌, ◌⊎◌, List, [], ◌∷◌, ◌++◌, length, map, replicate, refl, sym, ap, ◌∙◌, inl, inr, append_assoc, arith}
use Rattle.std.proofs.lemmas.List.{append-nil, map-append}
use Rattle.tl_tree.specs.Records.{Records}
use Rattle.tl_audit.specs.Chains.{zero_record}
use Rattle.tl_ledger.specs.declared.rows.RecordRow.{RecordRow}
use Rattle.tl_rows.specs.Rows.{fields_in}
use Rattle.tl_export.specs.Epochs.{with_new}

pub new_none : (base : Records) (nodes : ℕ) → nodes ≤ length base → with_new base nodes ≡ base
new_none base nodes few =
    let none : nodes - length base ≡ 0 = omega (arith, few) in
    ap (λ k. base ++ replicate k zero_record) none ∙ append-nil base

one_behind : {X : Type 0} (n : ℕ) (x : X) → replicate (suc n) x ≡ replicate n x ++ x ∷ []
one_behind zero x = refl
one_behind (suc n) x = ap (λ l. x ∷ l) (one_behind n x)

pub new_one : (base : Records) (nodes : ℕ) → length base ≤ nodes → with_new base (nodes + 1) ≡ with_new base nodes ++ zero_record ∷ []
new_one base nodes enough =
    let more : nodes + 1 - length base ≡ suc (nodes - length base) = omega (arith, enough) in
    ap (λ k. base ++ replicate k zero_record) more ∙ ap (λ l. base ++ l) (one_behind (nodes - length base) zero_record) ∙ sym (append_assoc base (replicate (nodes - length base) zero_record) (zero_record ∷ []))

-- a row more
pub row_more : (base : Records) (nodes : ℕ) (rows more : List RecordRow) (row : RecordRow) → length base ≤ nodes → map fields_in rows ≡ with_new base nodes → fields_in row ≡ zero_record → more ≡ rows ++ row ∷ []
    → map fields_in more ≡ with_new base (nodes + 1)
row_more base nodes rows more row enough are zeros is =
    ap (map fields_in) is ∙ map-append fields_in rows (row ∷ []) ∙ (λ i. are i ++ zeros i ∷ []) ∙ sym (new_one base nodes enough)

-- the rows are as many as the nodes, or as were known if those are more
pub rows_enough : (base : Records) (nodes count : ℕ) → (count ≤ nodes) ⊎ (count ≡ length base) → nodes ≤ count → length base ≤ count → with_new base count ≡ with_new base nodes
rows_enough base nodes count (inl few) most known = let same : count ≡ nodes = omega (arith, few, most) in ap (with_new base) same
rows_enough base nodes count (inr same) most known = new_none base count (omega (arith, same)) ∙ sym (new_none base nodes (omega (arith, same, most)))
