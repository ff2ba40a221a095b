-- Where two files meet: the first tree comes first, and zeros follow it.
use Rattle.std.proofs.Common.{◌≡◌, ℕ, ◌+◌, ◌-◌, ◌<◌, ◌≤◌, List, [], ◌∷◌, ◌++◌, length, get_or, take, drop, replicate, refl, sym, ap, ◌∙◌, arith}
use Rattle.std.proofs.lemmas.List.{take-append-drop, take_rest, take_all, drop_at, get_or_append_left, length-append, length-replicate, get_or-replicate, take_more, replicate_more}
use Rattle.tl_tree.specs.Records.{Record, Records}
use Rattle.tl_audit.specs.Chains.{zero_record}

-- ---- the same parents first

pub same_first : (xs ys : List ℕ) (n : ℕ) → n ≡ length xs → take n ys ≡ take n xs → (added : List ℕ) × (ys ≡ xs ++ added)
same_first xs ys n whole same =
    let all : take n xs ≡ xs = take_all n xs (omega (arith, whole)) in
    (drop n ys, sym (take-append-drop n ys) ∙ ap (λ l. l ++ drop n ys) (same ∙ all))

pub parent_there : (xs ys added : List ℕ) (n : ℕ) → ys ≡ xs ++ added → n < length xs → get_or ys n 0 ≡ get_or xs n 0
parent_there xs ys added n is inside = ap (λ l. get_or l n 0) is ∙ get_or_append_left xs added 0 n inside

pub no_shorter : (xs ys added : List ℕ) → ys ≡ xs ++ added → length xs ≤ length ys
no_shorter xs ys added is = omega (arith, ap length is, length-append xs added)

pub one_more_same : (xs ys : List ℕ) (n : ℕ) → n < length xs → n < length ys → take n ys ≡ take n xs → get_or ys n 0 ≡ get_or xs n 0 → take (n + 1) ys ≡ take (n + 1) xs
one_more_same xs ys n inside within same at =
    take_more ys n 0 within ∙ (λ i. same i ++ at i ∷ []) ∙ sym (take_more xs n 0 inside)

-- ---- zeros behind the records

pub one_more_zero : (records : Records) (n : ℕ) (r : Record) → n < length records → r ≡ get_or records n r → r ≡ zero_record → take n records ≡ replicate n zero_record
    → take (n + 1) records ≡ replicate (n + 1) zero_record
one_more_zero records n r inside at zero so =
    take_more records n r inside
    ∙ (λ i. so i ++ (sym at ∙ zero) i ∷ [])
    ∙ replicate_more n zero_record

pub all_zeros : (records : Records) (n : ℕ) → length records ≤ n → n ≤ length records → take n records ≡ replicate n zero_record → records ≡ replicate (length records) zero_record
all_zeros records n over within so =
    let count : n ≡ length records = omega (arith, over, within) in
    sym (take_all n records over) ∙ so ∙ ap (λ k. replicate k zero_record) count

pub zero_there : (records : Records) (n : ℕ) (r : Record) → n < length records → r ≡ get_or records n r → records ≡ replicate (length records) zero_record → r ≡ zero_record
zero_there records n r inside at all =
    at ∙ ap (λ l. get_or l n r) all ∙ get_or-replicate (length records) n zero_record r inside

-- the records after the first ones
abbrev pub behind : Records → Records → Records
behind first records = take (length records - length first) (drop (length first) records)

pub zeros_follow : (first records : Records) → take (length first) records ≡ first → behind first records ≡ replicate (length (behind first records)) zero_record
    → (n : ℕ) × (records ≡ first ++ replicate n zero_record)
zeros_follow first records same zeros =
    (length (behind first records), sym (take-append-drop (length first) records) ∙ (λ i. same i ++ (sym (take_rest records (length first)) ∙ zeros) i))

pub zeros_found : (first records : Records) (n : ℕ) → records ≡ first ++ replicate n zero_record → behind first records ≡ replicate (length (behind first records)) zero_record
zeros_found first records n is =
    let rest : behind first records ≡ replicate n zero_record =
    take_rest records (length first) ∙ ap (drop (length first)) is ∙ drop_at first (replicate n zero_record) (length first) refl in
    rest ∙ ap (λ k. replicate k zero_record) (sym (ap length rest ∙ length-replicate n zero_record))
