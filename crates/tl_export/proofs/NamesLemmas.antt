-- Procedures keep their names where others are put behind them.
use Rattle.std.proofs.Common.{◌≡◌, ℕ, zero, suc, ◌+◌, not, List, [], ◌∷◌, ◌++◌, length, map, take, drop, refl, sym, ap, ap₂, ◌∙◌, append_assoc, arith, Option, Some, None, if◌then◌else◌, string_bytes}
use Rattle.std.specs.List.{position_or_len}
use Rattle.std.specs.Str.{bytes_eq}
use Rattle.std.proofs.lemmas.Grind.{common_steps}
use Rattle.std.proofs.lemmas.List.{append-nil, length-map, map-append}
use Rattle.sqlite_value.specs.Order.{Row}
use Rattle.tl_procedures.specs.Names.{Named, name_of, number_of, with_code, put_at, put, latest, KeepsNames}
use Rattle.tl_ledger.specs.declared.rows.ProcedureRow.{ProcedureRow}
use Rattle.tl_ledger.specs.News.{procedure_columns}
use Rattle.tl_rows.specs.Rows.{procedure_form, named_form}
use Rattle.tl_store_laws.proofs.Put.{latest_joined}

-- ---- the number of a name

place_by_names : (name : List ℕ) (xs ys : List Named) → map name_of xs ≡ map name_of ys → position_or_len (λ p. bytes_eq name p.name) xs ≡ position_or_len (λ p. bytes_eq name p.name) ys
place_by_names name [] [] same = refl
place_by_names name [] (y ∷ ys) same = absurd (let l = ap length same in omega arith)
place_by_names name (x ∷ xs) [] same = absurd (let l = ap length same in omega arith)
place_by_names name (x ∷ xs) (y ∷ ys) same =
    let heads : x.name ≡ y.name = cc in
    let tails : map name_of xs ≡ map name_of ys = cc in
    ap₂ (λ b n. if not b then 1 + n else 0) (ap (bytes_eq name) heads) (place_by_names name xs ys tails)

number_by_names : (name : List ℕ) (xs ys : List Named) → map name_of xs ≡ map name_of ys → number_of xs name ≡ number_of ys name
number_by_names name xs ys same =
    let places = place_by_names name xs ys same in
    let long : length xs ≡ length ys = sym (length-map xs name_of) ∙ ap length same ∙ length-map ys name_of in
    grind (arith, common_steps)

-- ---- procedures that are put

abbrev names_after : Option ℕ → List (List ℕ) → List ℕ → List (List ℕ)
names_after None names name = names ++ name ∷ []
names_after (Some n) names name = names

coded_names : (xs : List Named) (p : Named) → map name_of (map (with_code p) xs) ≡ map name_of xs
coded_names [] p = refl
coded_names (x ∷ xs) p = ap (λ l. x.name ∷ l) (coded_names xs p)

put_at_names : (o : Option ℕ) (xs : List Named) (p : Named) → map name_of (put_at o xs p) ≡ names_after o (map name_of xs) p.name
put_at_names None xs p = map-append name_of xs (p ∷ [])
put_at_names (Some n) xs p = coded_names xs p

put_names : (xs ys : List Named) (p q : Named) → map name_of xs ≡ map name_of ys → p.name ≡ q.name → map name_of (put xs p) ≡ map name_of (put ys q)
put_names xs ys p q same named =
    let numbers : number_of xs p.name ≡ number_of ys q.name = number_by_names p.name xs ys same ∙ ap (number_of ys) named in
    put_at_names (number_of xs p.name) xs p ∙ (λ i. names_after (numbers i) (same i) (named i)) ∙ sym (put_at_names (number_of ys q.name) ys q)

latest_names : (xs ys ps qs : List Named) → map name_of xs ≡ map name_of ys → map name_of ps ≡ map name_of qs → map name_of (latest xs ps) ≡ map name_of (latest ys qs)
latest_names xs ys [] [] same put_same = same
latest_names xs ys [] (q ∷ qs) same put_same = absurd (let l = ap length put_same in omega arith)
latest_names xs ys (p ∷ ps) [] same put_same = absurd (let l = ap length put_same in omega arith)
latest_names xs ys (p ∷ ps) (q ∷ qs) same put_same =
    let heads : p.name ≡ q.name = cc in
    let tails : map name_of ps ≡ map name_of qs = cc in
    latest_names (put xs p) (put ys q) ps qs (put_names xs ys p q same heads) tails

kept_by_one : (o : Option ℕ) (xs : List Named) (p : Named) → KeepsNames xs (put_at o xs p)
kept_by_one None xs p = (p.name ∷ [], put_at_names None xs p)
kept_by_one (Some n) xs p = ([], put_at_names (Some n) xs p ∙ sym (append-nil (map name_of xs)))

kept_by_all : (xs ps : List Named) → KeepsNames xs (latest xs ps)
kept_by_all xs [] = ([], sym (append-nil (map name_of xs)))
kept_by_all xs (p ∷ ps) =
    let one = kept_by_one (number_of xs p.name) xs p in
    let all = kept_by_all (put xs p) ps in
    (one.0 ++ all.0, all.1 ∙ ap (λ l. l ++ all.0) one.1 ∙ append_assoc (map name_of xs) one.0 all.0)

-- ---- procedures that were put, and then others

cut : (qs : List Named) (n : ℕ) → qs ≡ take n qs ++ drop n qs
cut qs zero = refl
cut [] (suc n) = refl
cut (q ∷ qs) (suc n) = ap (λ l. q ∷ l) (cut qs n)

front_names : (ps qs : List Named) (more : List (List ℕ)) → map name_of qs ≡ map name_of ps ++ more → map name_of (take (length ps) qs) ≡ map name_of ps
front_names [] qs more same = refl
front_names (p ∷ ps) [] more same = absurd (let l = ap length same in omega arith)
front_names (p ∷ ps) (q ∷ qs) more same =
    let heads : q.name ≡ p.name = cc in
    let tails : map name_of qs ≡ map name_of ps ++ more = cc in
    ap₂ (λ a l. a ∷ l) heads (front_names ps qs more tails)

latest_keeps : (ps qs : List Named) (more : List (List ℕ)) → map name_of qs ≡ map name_of ps ++ more → KeepsNames (latest [] ps) (latest [] qs)
latest_keeps ps qs more same =
    let n = length ps in
    let front : map name_of (latest [] (take n qs)) ≡ map name_of (latest [] ps) = latest_names [] [] (take n qs) ps refl (front_names ps qs more same) in
    let kept = kept_by_all (latest [] (take n qs)) (drop n qs) in
    (kept.0, ap (λ l. map name_of (latest [] l)) (cut qs n) ∙ ap (map name_of) (latest_joined [] (take n qs) (drop n qs)) ∙ kept.1 ∙ ap (λ l. l ++ kept.0) front)

-- ---- of rows

abbrev row_name : ProcedureRow → List ℕ
row_name r = string_bytes r.name

form_names : (rows : List ProcedureRow) (all : List Named) → map procedure_form rows ≡ map named_form all → map row_name rows ≡ map name_of all
form_names [] [] same = refl
form_names [] (p ∷ all) same = absurd (let l = ap length same in omega arith)
form_names (r ∷ rows) [] same = absurd (let l = ap length same in omega arith)
form_names (r ∷ rows) (p ∷ all) same =
    let heads : procedure_form r ≡ named_form p = cc in
    let tails : map procedure_form rows ≡ map named_form all = cc in
    ap₂ (λ a l. a ∷ l) (ap (λ f. f.0) heads) (form_names rows all tails)

row_told : (x y : ProcedureRow) → procedure_columns x ≡ procedure_columns y → row_name x ≡ row_name y
row_told x y same = cc

more_names : (xs ys : List ProcedureRow) (more : List Row) → map procedure_columns ys ≡ map procedure_columns xs ++ more → (names : List (List ℕ)) × (map row_name ys ≡ map row_name xs ++ names)
more_names [] ys more same = (map row_name ys, refl)
more_names (x ∷ xs) [] more same = absurd (let l = ap length same in omega arith)
more_names (x ∷ xs) (y ∷ ys) more same =
    let heads : procedure_columns y ≡ procedure_columns x = cc in
    let tails : map procedure_columns ys ≡ map procedure_columns xs ++ more = cc in
    let rest = more_names xs ys more tails in
    (rest.0, ap₂ (λ a l. a ∷ l) (row_told y x heads) rest.1)

-- rows of procedures with more rows behind them
pub rows_keep : (xs ys : List ProcedureRow) (more : List Row) (ps qs : List Named) → map procedure_columns ys ≡ map procedure_columns xs ++ more
    → map procedure_form xs ≡ map named_form ps → map procedure_form ys ≡ map named_form qs → KeepsNames (latest [] ps) (latest [] qs)
rows_keep xs ys more ps qs same of_xs of_ys =
    let names = more_names xs ys more same in
    latest_keeps ps qs names.0 (sym (form_names ys qs of_ys) ∙ names.1 ∙ ap (λ l. l ++ names.0) (form_names xs ps of_xs))
