-- Adding bytes to a line of which only the first n are kept.
use Rattle.std.proofs.Common.{◌≡◌, ◌≢◌, ℕ, ◌<◌, ◌≤◌, ◌+◌, List, [], ◌∷◌, ◌++◌, false, length, drop, take, get_or, drop-cons, add-one, ap, sym, ◌∙◌, subst, arith, length-append, append_assoc, refl, inl, inr}
use Rattle.std.proofs.lemmas.Grind.{common_steps}
use Rattle.std.proofs.lemmas.Bool.{cases_lt}
use Rattle.std.proofs.lemmas.List.{take_all, take-append-le, length-take}
use Rattle.std.specs.Prelude.{Option, Some, None, Vec, vec_len, nat_eq}
use Rattle.std.specs.List.{list_any}
use Rattle.std.proofs.lemmas.Bool.Decides.{nat_tests}
use Rattle.tl_server.specs.Devices.{Adds}
use Rattle.tl_server.specs.Lines.{HasNoLf}

pub HasNoLf-push : (q : List ℕ) (b : ℕ) → HasNoLf q → b ≢ 10 → HasNoLf (q ++ b ∷ [])
HasNoLf-push [] b h n = (n, tt)
HasNoLf-push (x ∷ q) b h n = (h.0, HasNoLf-push q b h.1 n)

pub HasNoLf-append : (xs ys : List ℕ) → HasNoLf xs → HasNoLf ys → HasNoLf (xs ++ ys)
HasNoLf-append [] ys h k = k
HasNoLf-append (x ∷ xs) ys h k = (h.0, HasNoLf-append xs ys h.1 k)

pub HasNoLf-front : (xs ys : List ℕ) → HasNoLf (xs ++ ys) → HasNoLf xs
HasNoLf-front [] ys h = tt
HasNoLf-front (x ∷ xs) ys h = (h.0, HasNoLf-front xs ys h.1)

-- one more byte, if fewer than n are kept
pub take_push : (n : ℕ) (held p : List ℕ) (b : ℕ) → held ≡ take n p → length held < n → held ++ b ∷ [] ≡ take n (p ++ b ∷ [])
take_push n held p b is few =
    let short : length p < n = omega (arith, ap length is, length-take n p) in
    let all : held ≡ p = is ∙ take_all n p (omega arith) in
    ap (λ xs. xs ++ b ∷ []) all ∙ sym (take_all n (p ++ b ∷ []) (omega (arith, length-append p (b ∷ []))))

-- one more byte, if n are kept already
pub take_full : (n : ℕ) (held p : List ℕ) (b : ℕ) → held ≡ take n p → n ≤ length held → held ≡ take n (p ++ b ∷ [])
take_full n held p b is many =
    let long : n ≤ length p = omega (arith, ap length is, length-take n p) in
    is ∙ sym (take-append-le n p (b ∷ []) long)

-- cutting a line's beginning first doesn't change which bytes are kept
pub take_again : (n : ℕ) (p q : List ℕ) → take n (take n p ++ q) ≡ take n (p ++ q)
take_again n p q = elim (cases_lt n (length p)) [
  | inr short ↦ ap (λ xs. take n (xs ++ q)) (take_all n p short)
  | inl long ↦
      take-append-le n (take n p) q (omega (arith, length-take n p)) ∙ take_all n (take n p) (omega (arith, length-take n p)) ∙ sym (take-append-le n p q (omega arith))
]

-- the byte at i of the first e bytes
pub next_byte : (xs : List ℕ) (i e b : ℕ) → i < e → e ≤ length xs → b ≡ get_or xs i b → drop i (take e xs) ≡ b ∷ drop (i + 1) (take e xs)
next_byte xs i e b lt le is =
    let l : i < length (take e xs) = grind (arith, common_steps) in
    let at : get_or (take e xs) i b ≡ b = grind (arith, common_steps) in
    (rw (add-one, drop-cons (take e xs) i b) refl) ∙ ap (λ x. x ∷ drop (i + 1) (take e xs)) at

pub vec_len-length : {X Z : Type 0} (v : Vec X Z) → vec_len v ≡ length v.items
vec_len-length v = v.ok.0

pub Adds-append : (a b c : Option (List ℕ)) (xs ys : List ℕ) → Adds a xs b → Adds b ys c → Adds a (xs ++ ys) c
Adds-append (Some x) b c xs ys h k =
    let P : Option (List ℕ) → Type 0 = λ o. Adds o ys c in
    let e : c ≡ Some ((x ++ xs) ++ ys) = subst P h k in
    e ∙ ap Some (append_assoc x xs ys)
Adds-append None b c xs ys h k = tt

no_lf_test : (b : ℕ) → (b ≡ 10 → ⊥) → nat_eq b 10 ≡ false
no_lf_test b h = grind (arith, nat_tests)

pub no_lf_among : (xs : List ℕ) → HasNoLf xs → list_any (λ y. nat_eq y 10) xs ≡ false
no_lf_among [] h = refl
no_lf_among (x ∷ xs) h = rw (no_lf_test x h.0) (no_lf_among xs h.1)
