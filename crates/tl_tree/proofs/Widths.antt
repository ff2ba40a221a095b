-- The numbers of a record, followed by zeros.
use Rattle.std.proofs.Common.{◌≡◌, ℕ, ◌+◌, ◌-◌, ◌<◌, ◌≤◌, ℤ, pos, List, [], ◌∷◌, ◌++◌, length, get_or, set, take, drop, replicate, Option, Some, None, option_map, option_and_then, refl, sym, ap, ◌∙◌, append_assoc, arith, eq-eqb}
use Rattle.std.proofs.lemmas.List.{append-nil, drop-drop, drop_more, drop-set-lt, drop-replicate, length-take-le, take-append-drop, take_more_set}
use Rattle.serde_json.specs.View.{view, items_view}
use Rattle.serde_json.specs.declared.value.Value.{Value}
use Rattle.tl_width.specs.Fields.{field_count}
use Rattle.tl_tree.specs.declared.record.Width.{Width}
use Rattle.tl_tree.specs.Records.{width_of, widened}
use Rattle.tl_tree.specs.Reading.{each_item, integer_of, if_record}
use Rattle.tl_tree.proofs.Items.{onto}

onto_more : (xs : List ℤ) (z : ℤ) (o : Option (List ℤ)) → onto (xs ++ z ∷ []) o ≡ onto xs (option_map (λ zs. z ∷ zs) o)
onto_more xs z None = refl
onto_more xs z (Some ys) = ap Some (append_assoc xs (z ∷ []) ys)

-- one more number is read
pub number_read : (fields : List ℤ) (z : ℤ) (vs : List Value) (i : ℕ) (d : Value) → i < length fields → i < length vs → integer_of (view (get_or vs i d)) ≡ Some z
    → onto (take (i + 1) (set fields i z)) (each_item integer_of (items_view (drop (i + 1) vs))) ≡ onto (take i fields) (each_item integer_of (items_view (drop i vs)))
number_read fields z vs i d inside within is = rw (take_more_set fields i z inside, drop_more vs i d within, is) (onto_more (take i fields) z (each_item integer_of (items_view (drop (i + 1) vs))))

-- the fields after it are still zeros
pub zeros_behind : (fields : List ℤ) (i n : ℕ) (z : ℤ) → drop i fields ≡ replicate (n - i) (pos 0) → drop (i + 1) (set fields i z) ≡ replicate (n - (i + 1)) (pos 0)
zeros_behind fields i n z zeros =
    drop-set-lt (i + 1) fields i z (omega arith) ∙ sym (drop-drop 1 i fields) ∙ ap (drop 1) zeros ∙ drop-replicate 1 (n - i) (pos 0) ∙ ap (λ k. replicate k (pos 0)) (omega arith)

filled : (fields : List ℤ) (n : ℕ) → length fields ≡ field_count → n ≤ field_count → drop n fields ≡ replicate (field_count - n) (pos 0) → widened (take n fields) ≡ fields
filled fields n all few zeros =
    ap (λ k. take n fields ++ replicate (field_count - k) (pos 0)) (length-take-le n fields (omega arith)) ∙ ap (λ l. take n fields ++ l) (sym zeros) ∙ take-append-drop n fields

-- all numbers are read
pub record_read : (width : Width) (fields : List ℤ) (n : ℕ) (o : Option (List ℤ)) → n ≡ width_of width → n ≤ field_count → length fields ≡ field_count → drop n fields ≡ replicate (field_count - n) (pos 0) → onto (take n fields) (Some []) ≡ o
    → Some fields ≡ option_and_then (if_record width) o
record_read width fields n o is few all zeros read =
    let size = length-take-le n fields (omega arith) in
    let wide = filled fields n all (omega arith) zeros in
    let taken : Some (take n fields) ≡ o = ap Some (sym (append-nil (take n fields))) ∙ read in
    rw (← taken, eq-eqb (length (take n fields)) (width_of width) (size ∙ is)) (ap Some (sym wide))
