-- Lists of procedures that begin with others.
use Rattle.std.proofs.Common.{Bool, true, false, not, ◌≡◌, ℕ, zero, suc, ◌+◌, ◌<◌, ◌≤◌, List, [], ◌∷◌, ◌++◌, length, map, take, drop, get_or, subst, refl, sym, ap, ◌∙◌, arith, add-one}
use Rattle.std.proofs.Math.Seq.{take-suc, take-length}
use Rattle.std.proofs.Math.ListN.{get_or-append, get_or-map}
use Rattle.std.proofs.lemmas.List.{length-append, length-map, map-append, map_more}
use Rattle.tl_procedures.specs.Names.{Named, BeginsWith, KeepsNames, name_of, no_procedure}

pub not_true : (b : Bool) → not b ≡ true → b ≡ false
not_true true h = sym h
not_true false h = refl

pub not_false : (b : Bool) → not b ≡ false → b ≡ true
not_false true h = refl
not_false false h = sym h

pub begins_at : (xs ys : List Named) (i : ℕ) → BeginsWith xs ys → i < length xs → get_or ys i no_procedure ≡ get_or xs i no_procedure
begins_at xs ys i b lt = ap (λ l. get_or l i no_procedure) b.1 ∙ get_or-append xs b.0 no_procedure i lt

pub begins_shorter : (xs ys : List Named) → BeginsWith xs ys → length xs ≤ length ys
begins_shorter xs ys b = let a = ap length b.1 ∙ length-append xs b.0 in omega (arith, a)

pub same_named : (a b : Named) → a.name ≡ b.name → a.code ≡ b.code → a ≡ b
same_named a b names codes = (λ i. record { name = names i; code = codes i })

pub prefix_more : (xs ys : List Named) (n : ℕ) → n < length xs → n < length ys → take n ys ≡ take n xs → get_or ys n no_procedure ≡ get_or xs n no_procedure → take (n + 1) ys ≡ take (n + 1) xs
prefix_more xs ys n lx ly same here =
    ap (λ k. take k ys) (add-one n) ∙ take-suc ys n no_procedure ly ∙ (λ i. same i ++ here i ∷ [])
    ∙ sym (take-suc xs n no_procedure lx) ∙ sym (ap (λ k. take k xs) (add-one n))

split : (n : ℕ) (ys : List Named) → ys ≡ take n ys ++ drop n ys
split zero ys = refl
split (suc n) [] = refl
split (suc n) (y ∷ ys) = ap (λ l. y ∷ l) (split n ys)

pub prefix_whole : (xs ys : List Named) (n : ℕ) → n ≡ length xs → take n ys ≡ take n xs → BeginsWith xs ys
prefix_whole xs ys n at same = (drop n ys, split n ys ∙ ap (λ l. l ++ drop n ys) (same ∙ ap (λ k. take k xs) at ∙ take-length xs))

-- ---- their names

pub name_at : (xs ys : List Named) (i : ℕ) → KeepsNames xs ys → i < length xs → (get_or ys i no_procedure).name ≡ (get_or xs i no_procedure).name
name_at xs ys i b lt =
    sym (get_or-map name_of ys i no_procedure) ∙ ap (λ l. get_or l i []) b.1
    ∙ get_or-append (map name_of xs) b.0 [] i (subst (λ n. i < n) (sym (length-map xs name_of)) lt) ∙ get_or-map name_of xs i no_procedure

pub names_more : (xs ys : List Named) (n : ℕ) → n < length xs → n < length ys → map name_of (take n ys) ≡ map name_of (take n xs)
    → (get_or ys n no_procedure).name ≡ (get_or xs n no_procedure).name → map name_of (take (n + 1) ys) ≡ map name_of (take (n + 1) xs)
names_more xs ys n lx ly same here =
    map_more name_of ys n no_procedure ly ∙ (λ i. same i ++ here i ∷ []) ∙ sym (map_more name_of xs n no_procedure lx)

pub names_whole : (xs ys : List Named) (n : ℕ) → n ≡ length xs → map name_of (take n ys) ≡ map name_of (take n xs) → KeepsNames xs ys
names_whole xs ys n at same = (
  map name_of (drop n ys),
  ap (map name_of) (split n ys) ∙ map-append name_of (take n ys) (drop n ys)
      ∙ ap (λ l. l ++ map name_of (drop n ys)) (same ∙ ap (λ k. map name_of (take k xs)) at ∙ ap (map name_of) (take-length xs)),
)

pub begins_keeps : (xs ys : List Named) → BeginsWith xs ys → KeepsNames xs ys
begins_keeps xs ys b = (map name_of b.0, ap (map name_of) b.1 ∙ map-append name_of xs b.0)

pub keeps_shorter : (xs ys : List Named) → KeepsNames xs ys → length xs ≤ length ys
keeps_shorter xs ys b =
    let long = ap length b.1 ∙ length-append (map name_of xs) b.0 in
    let mine = length-map xs name_of in
    let all = length-map ys name_of in
    omega (arith, long, mine, all)
