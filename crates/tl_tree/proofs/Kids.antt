-- The children of a node.
use Rattle.std.proofs.Common.{◌≡◌, ℕ, zero, suc, ◌+◌, ◌-◌, ◌<◌, ◌≤◌, List, [], ◌∷◌, ◌++◌, length, get_or, drop, take, set, cond, Bool, true, false, nat_eq, refl, sym, ap, ◌∙◌, arith, add-zero, append-nil, length-drop, eq-eqb, ne_eqb, inl, inr, get_or-set_same, get_or-set_other, get_or-drop, length-take-le}
use Rattle.std.proofs.lemmas.Grind.{common_steps}
use Rattle.std.proofs.lemmas.Bool.{cases_eq}
use Rattle.std.proofs.lemmas.Bool.Decides.{nat_tests}
use Rattle.std.proofs.lemmas.List.{take_more}
use Rattle.tl_tree.specs.Shape.{kids, kids_from, IsKid}

pub length-kids_from : (ps : List ℕ) (i x : ℕ) → length (kids_from ps i x) ≤ length ps
length-kids_from [] i x = omega arith
length-kids_from (p ∷ ps) i x = grind (arith, common_steps, length-kids_from ps (i + 1) x)

-- y is a node from i on whose parent is x, where the list gives the parents of the nodes from i on
abbrev IsKidAt : List ℕ → ℕ → ℕ → ℕ → Type 0
IsKidAt ps i x y = (i ≤ y) × (y < i + length ps) × (get_or ps (y - i) 0 ≡ x)

later : (p : ℕ) (ps : List ℕ) (i x y : ℕ) → IsKidAt ps (i + 1) x y → IsKidAt (p ∷ ps) i x y
later p ps i x y h =
    let from : y - i ≡ suc (y - (i + 1)) = omega arith in
    (omega arith, omega arith, rw from h.2)

kids_from_at : (b : Bool) (p : ℕ) (ps : List ℕ) (i x n : ℕ) → nat_eq p x ≡ b → ((m : ℕ) → m < length (kids_from ps (i + 1) x) → IsKidAt ps (i + 1) x (get_or (kids_from ps (i + 1) x) m 0))
    → n < length (cond b (i ∷ kids_from ps (i + 1) x) (kids_from ps (i + 1) x)) → IsKidAt (p ∷ ps) i x (get_or (cond b (i ∷ kids_from ps (i + 1) x) (kids_from ps (i + 1) x)) n 0)
kids_from_at false p ps i x n is rest h = later p ps i x _ (rest n h)
kids_from_at true p ps i x zero is rest h =
    let here : i - i ≡ 0 = omega arith in
    (omega arith, omega arith, rw here (grind (arith, nat_tests)))
kids_from_at true p ps i x (suc n) is rest h = later p ps i x _ (rest n (omega arith))

pub kid_from : (ps : List ℕ) (i x n : ℕ) → n < length (kids_from ps i x) → IsKidAt ps i x (get_or (kids_from ps i x) n 0)
kid_from [] i x n h = absurd (omega arith)
kid_from (p ∷ ps) i x n h = kids_from_at (nat_eq p x) p ps i x n refl (λ m. kid_from ps (i + 1) x m) h

pub length-kids : (parents : List ℕ) (x : ℕ) → 0 < length parents → length (kids parents x) < length parents
length-kids [] x h = absurd (omega arith)
length-kids (p ∷ ps) x h = omega (arith, length-kids_from ps 1 x)

kid_at : (p : ℕ) (ps : List ℕ) (x y : ℕ) → IsKidAt ps 1 x y → IsKid (p ∷ ps) x y
kid_at p ps x zero h = absurd (omega arith)
kid_at p ps x (suc y) h = let back : suc y - 1 ≡ y = omega arith in record { below_root = omega arith; inside = omega arith; parent_is = rw back at h.2 }

pub IsKid-kids : (parents : List ℕ) (x n : ℕ) → n < length (kids parents x) → IsKid parents x (get_or (kids parents x) n 0)
IsKid-kids [] x n h = absurd (omega arith)
IsKid-kids (p ∷ ps) x n h = kid_at p ps x _ (kid_from ps 1 x n h)

push_at : (b : Bool) (i q : ℕ) (xs ys zs : List ℕ) → xs ≡ ys ++ zs → cond b (i ∷ xs) xs ≡ cond b (i ∷ ys) ys ++ zs
push_at true i q xs ys zs e = ap (λ l. i ∷ l) e
push_at false i q xs ys zs e = e

pub kids_from-push : (ps : List ℕ) (p i x : ℕ) → kids_from (ps ++ p ∷ []) i x ≡ kids_from ps i x ++ cond (nat_eq p x) ((i + length ps) ∷ []) []
kids_from-push [] p i x = rw add-zero refl
kids_from-push (q ∷ ps) p i x =
    let one_on : (i + 1) + length ps ≡ i + suc (length ps) = omega arith in
    let rest = kids_from-push ps p (i + 1) x in
    push_at (nat_eq q x) i q _ _ _ (rw one_on at rest)

joined : (lists : List (List ℕ)) (up x node : ℕ) (more mine : List ℕ) → up < length lists → more ≡ get_or lists up [] ++ node ∷ [] → get_or lists x [] ≡ mine
    → mine ++ cond (nat_eq up x) (node ∷ []) [] ≡ get_or (set lists up more) x []
joined lists up x node more mine inside more_is is = elim (cases_eq up x) [
  | inl same ↦ (
      let test : nat_eq up x ≡ true = eq-eqb up x same in
      rw (test, ← same) (ap (λ l. l ++ node ∷ []) (sym is ∙ ap (λ i. get_or lists i []) (sym same)) ∙ sym more_is ∙ sym (get_or-set_same lists up more [] inside))
      )
  | inr other ↦ (
      let test : nat_eq up x ≡ false = ne_eqb up x other in
      let apart = λ (e : x ≡ up). other (sym e) in
      rw test (append-nil mine ∙ sym is ∙ sym (get_or-set_other lists up x more [] apart))
      )
]

-- if the lists have the children among the nodes before `node`, then after `node` is appended to its parent's list they also have `node`
pub kids_step : (parents : List ℕ) (lists : List (List ℕ)) (node up : ℕ) (more : List ℕ) → 0 < node → node < length parents → up ≡ get_or parents node 0 → up < length lists
    → more ≡ get_or lists up [] ++ node ∷ [] → (x : ℕ) → get_or lists x [] ≡ kids_from (take (node - 1) (drop 1 parents)) 1 x
    → get_or (set lists up more) x [] ≡ kids_from (take (node + 1 - 1) (drop 1 parents)) 1 x
kids_step parents lists node up more above inside up_is up_inside more_is x before =
    let one_on : node + 1 - 1 ≡ (node - 1) + 1 = omega arith in
    let within : node - 1 < length (drop 1 parents) = simp length-drop (omega arith) in
    let front = take (node - 1) (drop 1 parents) in
    let size : length front ≡ node - 1 = length-take-le (node - 1) (drop 1 parents) (omega arith) in
    let place : 1 + (node - 1) ≡ node = omega arith in
    let last : get_or (drop 1 parents) (node - 1) 0 ≡ up = get_or-drop 1 parents (node - 1) 0 ∙ ap (λ i. get_or parents i 0) place ∙ sym up_is in
    let grown : kids_from (take (node + 1 - 1) (drop 1 parents)) 1 x ≡ kids_from front 1 x ++ cond (nat_eq up x) (node ∷ []) [] =
    ap (λ n. kids_from (take n (drop 1 parents)) 1 x) one_on
    ∙ ap (λ l. kids_from l 1 x) (take_more (drop 1 parents) (node - 1) 0 within ∙ ap (λ p. front ++ p ∷ []) last)
    ∙ kids_from-push front up 1 x
    ∙ ap (λ n. kids_from front 1 x ++ cond (nat_eq up x) (n ∷ []) []) (ap (λ n. 1 + n) size ∙ place) in
    sym (grown ∙ joined lists up x node more (kids_from front 1 x) up_inside more_is before)
