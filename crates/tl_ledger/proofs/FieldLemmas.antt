-- The fields of a record, read one after another.
use Rattle.std.proofs.Common.{◌≡◌, ℕ, zero, suc, ◌+◌, ◌<◌, ℤ, pos, List, [], ◌∷◌, ◌++◌, length, map, take, get_or, slice_set, slice_index_or, refl, sym, ap, ◌∙◌, arith}
use Rattle.std.proofs.lemmas.List.{take_more, take_more_set}
use Rattle.sqlite_value.specs.declared.value.Value.{Value}
use Rattle.sqlite_value.specs.declared.value.Value.TheVariants.{Null, Int}
use Rattle.sqlite_value.specs.Order.{column}

number_in : (fields : List ℤ) (at : ℕ) → at < length fields → slice_index_or (map Int fields) at Null ≡ Int (get_or fields at (pos 0))
number_in [] at inside = absurd (omega (arith, inside))
number_in (f ∷ fields) zero inside = refl
number_in (f ∷ fields) (suc at) inside = number_in fields at (omega (arith, inside))

-- a field stands behind the row's number and the empty column of its key
pub field_column : (number : Value) (fields : List ℤ) (at : ℕ) → at < length fields → column (number ∷ Null ∷ map Int fields) (at + 2) ≡ Int (get_or fields at (pos 0))
field_column number fields at inside =
    let e : at + 2 ≡ suc (suc at) = omega arith in
    ap (column (number ∷ Null ∷ map Int fields)) e ∙ number_in fields at inside

pub one_field_more : (fields wanted : List ℤ) (at : ℕ) (value : ℤ) → at < length fields → at < length wanted → value ≡ get_or wanted at (pos 0) → take at fields ≡ take at wanted
    → take (at + 1) (slice_set fields at value) ≡ take (at + 1) wanted
one_field_more fields wanted at value inside in_wanted is so_far =
    take_more_set fields at value inside ∙ ap (λ l. l ++ value ∷ []) so_far ∙ ap (λ v. take at wanted ++ v ∷ []) is ∙ sym (take_more wanted at (pos 0) in_wanted)
