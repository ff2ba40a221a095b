-- Lists of calls, and the position at which a call is inserted.
use Rattle.std.proofs.Common.{◌≡◌, ℕ, ◌==◌, ◌||◌, Bool, true, false, List, [], ◌∷◌, ◌++◌, refl, sym, ap, subst, inl, inr, arith}
use Rattle.std.specs.Prelude.{if◌then◌else◌}
use Rattle.std.proofs.lemmas.Bool.{cases_Bool, both_ways, eqb-true, eq-eqb}
use Rattle.std.proofs.lemmas.Bool.Decides.{nat_tests}
use Rattle.tl_tree_locking.specs.Order.{stands, before, IsDistinct, put_before}

pub before-left : (order : List ℕ) (c d : ℕ) → before order c d ≡ true → stands c order ≡ true
before-left [] c d h = h
before-left (e ∷ es) c d h = let ih = before-left es c d in grind (arith, nat_tests, ih, h)

pub before-right : (order : List ℕ) (c d : ℕ) → before order c d ≡ true → stands d order ≡ true
before-right [] c d h = h
before-right (e ∷ es) c d h = let ih = before-right es c d in grind (arith, nat_tests, ih, h)

pub stands-put : (test : ℕ → Bool) (c : ℕ) (order : List ℕ) (d : ℕ) → stands d (put_before test c order) ≡ ((c == d) || stands d order)
stands-put test c [] d = refl
stands-put test c (e ∷ es) d = let ih = stands-put test c es d in elim (cases_Bool (test e)) [ inl h ↦ rw h refl | inr h ↦ rw h (grind (arith, ih)) ]

pub IsDistinct-put : (test : ℕ → Bool) (c : ℕ) (order : List ℕ) → stands c order ≡ false → IsDistinct order → IsDistinct (put_before test c order)
IsDistinct-put test c [] out h = (refl, tt)
IsDistinct-put test c (e ∷ es) out h =
    let i : stands c es ≡ false = grind (arith, out) in
    let ne : (c == e) ≡ false = grind (arith, nat_tests, out) in
    let s = stands-put test c es e in
    elim (cases_Bool (test e)) [ inl t ↦ rw t (out, h) | inr t ↦ rw t (grind (arith, s, ne, h.0), IsDistinct-put test c es i h.1) ]

-- inserting a call keeps the order of the others
pub before-put : (test : ℕ → Bool) (c : ℕ) (order : List ℕ) → stands c order ≡ false → (a b : ℕ) → before order a b ≡ true → before (put_before test c order) a b ≡ true
before-put test c [] out a b h = absurd (both_ways false refl h)
before-put test c (e ∷ es) out a b h =
    let i : stands c es ≡ false = grind (arith, out) in
    let ih = before-put test c es i a b in
    let l = before-left (e ∷ es) a b h in
    let ne : (c == a) ≡ false = grind (arith, nat_tests, out, l) in
    let s = stands-put test c es b in
    elim (cases_Bool (test e)) [ inl t ↦ rw (t, ne) h | inr t ↦ rw t (grind (arith, s, ih, h)) ]

-- the inserted call comes before each call that passes the test
pub put-before_passing : (test : ℕ → Bool) (c : ℕ) (order : List ℕ) → stands c order ≡ false → (d : ℕ) → stands d order ≡ true → test d ≡ true → before (put_before test c order) c d ≡ true
put-before_passing test c [] out d here pass = absurd (both_ways false refl here)
put-before_passing test c (e ∷ es) out d here pass =
    let i : stands c es ≡ false = grind (arith, out) in
    let self : (c == c) ≡ true = grind (arith, nat_tests) in
    let ne : (e == c) ≡ false = grind (arith, out) in
    elim (cases_Bool (test e)) [
      | inl t ↦ rw (t, self) here
      | inr t ↦
          let other : (e == d) ≡ false = grind (arith, nat_tests, t, pass) in
          let there : stands d es ≡ true = grind (arith, here, other) in
          rw (t, ne) (put-before_passing test c es i d there pass)
    ]

-- a call that is before each call that passes the test is before the inserted call
pub before_put_call : (test : ℕ → Bool) (c : ℕ) (order : List ℕ) → stands c order ≡ false → IsDistinct order → (a : ℕ) → stands a order ≡ true
    → ((d : ℕ) → stands d order ≡ true → test d ≡ true → before order a d ≡ true) → before (put_before test c order) a c ≡ true
before_put_call test c [] out once a here ahead = absurd (both_ways false refl here)
before_put_call test c (e ∷ es) out once a here ahead =
    let i : stands c es ≡ false = grind (arith, out) in
    let self : (c == c) ≡ true = eq-eqb c c refl in
    let self_e : (e == e) ≡ true = eq-eqb e e refl in
    let s = stands-put test c es c in
    elim (cases_Bool (test e)) [
      | inl t ↦
          let b : before (e ∷ es) a e ≡ true = ahead e (grind (arith, self_e)) t in
          let r = before-right es a e in
          let again : stands e es ≡ true = grind (arith, b, r) in
          absurd (both_ways (stands e es) once.0 again)
      | inr t ↦ rw t (elim (cases_Bool (e == a)) [
        | inl same ↦ rw same (grind (arith, s, self))
        | inr other ↦
            let there : stands a es ≡ true = grind (arith, here, other) in
            rw other (before_put_call test c es i once.1 a there (λ d k p. let b : before (e ∷ es) a d ≡ true = ahead d (grind (arith, k)) p in rw other at b))
      ])
    ]

-- if no call passes, the call is inserted at the end
pub put_before-none : (c : ℕ) (order : List ℕ) → put_before (λ _. false) c order ≡ order ++ c ∷ []
put_before-none c [] = refl
put_before-none c (e ∷ es) = ap (λ ys. e ∷ ys) (put_before-none c es)

-- a call occurs in two joined lists if it occurs in one of them
pub stands-append : (d : ℕ) (cs ds : List ℕ) → stands d (cs ++ ds) ≡ (stands d cs || stands d ds)
stands-append d [] ds = refl
stands-append d (c ∷ cs) ds = let ih = stands-append d cs ds in grind (arith, ih)

-- in a list without repetitions, a call before c is in the part before c
pub before_cut : (front back : List ℕ) (c d : ℕ) → IsDistinct (front ++ c ∷ back) → before (front ++ c ∷ back) d c ≡ true → stands d front ≡ true
before_cut [] back c d once h = elim (cases_Bool (c == d)) [
  | inl same ↦ absurd (both_ways (stands c back) once.0 (rw same at h))
  | inr other ↦ let b : before back d c ≡ true = rw other at h in absurd (both_ways (stands c back) once.0 (before-right back d c b))
]
before_cut (e ∷ es) back c d once h = elim (cases_Bool (e == d)) [
  | inl same ↦ rw same refl
  | inr other ↦ rw other (before_cut es back c d once.1 (rw other at h))
]

-- a call isn't in both parts of a list that is split at c
pub cut_apart : (front back : List ℕ) (c d : ℕ) → IsDistinct (front ++ c ∷ back) → stands d front ≡ true → stands d (c ∷ back) ≡ true → ⊥
cut_apart [] back c d once h k = both_ways false refl h
cut_apart (e ∷ es) back c d once h k =
    let s = stands-append e es (c ∷ back) in
    let out : stands e (c ∷ back) ≡ false = let o = once.0 in grind (arith, s, o) in
    elim (cases_Bool (e == d)) [
      | inl same ↦ both_ways (stands d (c ∷ back)) (subst (λ z. stands z (c ∷ back) ≡ false) (eqb-true e d same) out) k
      | inr other ↦ cut_apart es back c d once.1 (rw other at h) k
    ]

-- a call in the part before c doesn't come after c
pub cut_not_behind : (front back : List ℕ) (c d : ℕ) → IsDistinct (front ++ c ∷ back) → stands d front ≡ true → before (front ++ c ∷ back) c d ≡ true → ⊥
cut_not_behind [] back c d once h b = both_ways false refl h
cut_not_behind (e ∷ es) back c d once h b =
    let s = stands-append e es (c ∷ back) in
    let self = eq-eqb c c refl in
    let out : stands e (es ++ c ∷ back) ≡ false = once.0 in
    let ne : (e == c) ≡ false = elim (cases_Bool (e == c)) [
      | inl same ↦ let here : stands e (c ∷ back) ≡ true = subst (λ z. stands z (c ∷ back) ≡ true) (sym (eqb-true e c same)) (grind (arith, self)) in grind (arith, s, out, here)
      | inr other ↦ other
    ] in
    let b2 : before (es ++ c ∷ back) c d ≡ true = rw ne at b in
    elim (cases_Bool (e == d)) [
      | inl same ↦ both_ways (stands e (es ++ c ∷ back)) out (subst (λ z. stands z (es ++ c ∷ back) ≡ true) (sym (eqb-true e d same)) (before-right (es ++ c ∷ back) c d b2))
      | inr other ↦ cut_not_behind es back c d once.1 (rw other at h) b2
    ]

-- tests that agree on the calls of the order insert a call at the same position
pub put_before-same : (test other : ℕ → Bool) (c : ℕ) (order : List ℕ) → ((d : ℕ) → stands d order ≡ true → test d ≡ other d) → put_before test c order ≡ put_before other c order
put_before-same test other c [] same = refl
put_before-same test other c (e ∷ es) same =
    let self = eq-eqb e e refl in
    let here = same e (grind (arith, self)) in
    let rest = put_before-same test other c es (λ d h. same d (grind (arith, h))) in
    rw here (ap (λ z. if other e then c ∷ e ∷ es else e ∷ z) rest)
