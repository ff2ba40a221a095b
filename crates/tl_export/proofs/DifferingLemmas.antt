-- Records that are those of their rows.
use Rattle.std.proofs.Common.{◌≡◌, inl, inr, ℕ, zero, suc, ◌<◌, ◌≤◌, List, [], ◌∷◌, length, map, Some, slice_get, refl, sym, ap, ◌∙◌, arith}
use Rattle.std.proofs.lemmas.List.{length-map}
use Rattle.tl_tree.specs.Records.{Records, Record}
use Rattle.tl_ledger.specs.declared.rows.RecordRow.{RecordRow}
use Rattle.tl_rows.specs.Rows.{fields_in}
use Rattle.tl_export.specs.Differing.{IsSame, IsFirstOther}

was_same : (records : Records) (rows : List RecordRow) (node : ℕ) (x : Record) (row : RecordRow) → slice_get records node ≡ Some x → slice_get rows node ≡ Some row → IsSame records rows node
    → x ≡ fields_in row
was_same records rows node x row at_record at_row same =
    let one : row ≡ same.row = (let both : Some row ≡ Some same.row = sym at_row ∙ same.row_is in cc) in
    let other : x ≡ fields_in same.row = (let both : Some x ≡ Some (fields_in same.row) = sym at_record ∙ same.same in cc) in
    other ∙ ap fields_in (sym one)

-- all of them are
pub all_same : (records : Records) (rows : List RecordRow) (count : ℕ) → length records ≤ count → length rows ≤ count → ((n : ℕ) → n < count → IsSame records rows n) → records ≡ map fields_in rows
all_same [] [] count few also each = refl
all_same [] (row ∷ rows) count few also each = absurd (let none = (each 0 (omega (arith, also))).same in cc)
all_same (x ∷ records) [] count few also each = absurd (let none = (each 0 (omega (arith, few))).row_is in cc)
all_same (x ∷ records) (row ∷ rows) zero few also each = absurd (omega (arith, few))
all_same (x ∷ records) (row ∷ rows) (suc count) few also each =
    let first : x ≡ fields_in row = was_same (x ∷ records) (row ∷ rows) 0 x row refl refl (each 0 (omega arith)) in
    let rest = all_same records rows count (omega (arith, few)) (omega (arith, also))
    (λ n less. let h = each (suc n) (omega (arith, less)) in record { row = h.row; row_is = h.row_is; same = h.same }) in
    ap (λ y. y ∷ records) first ∙ ap (λ l. fields_in row ∷ l) rest

row_at : (rows : List RecordRow) (node : ℕ) → node < length rows → (row : RecordRow) × (slice_get rows node ≡ Some row) × (slice_get (map fields_in rows) node ≡ Some (fields_in row))
row_at [] node less = absurd (omega (arith, less))
row_at (row ∷ rows) zero less = (row, refl, refl)
row_at (row ∷ rows) (suc node) less = row_at rows node (omega (arith, less))

-- there is no other record where all are the same
pub none_other : (records : Records) (rows : List RecordRow) (node : ℕ) → records ≡ map fields_in rows → IsFirstOther records rows node → ⊥
none_other records rows node same first =
    let long : length records ≡ length rows = ap length same ∙ length-map rows fields_in in
    let inside : node < length rows = elim first.inside [ inl less ↦ omega (arith, less, long) | inr less ↦ less ] in
    let row = row_at rows node inside in
    first.other (record { row = row.0; row_is = row.1; same = ap (λ l. slice_get l node) same ∙ row.2 })
