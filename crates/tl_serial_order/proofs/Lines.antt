-- The position at which a call is inserted.
use Rattle.std.proofs.Common.{◌≡◌, ◌≢◌, ℕ, zero, suc, sym, set, ◌<◌, ◌≤◌, ◌==◌, ◌||◌, Bool, true, false, List, [], ◌∷◌, ◌++◌, length, get_or, refl, inl, inr, ap, ◌∙◌, subst, arith}
use Rattle.std.specs.Prelude.{insert, All}
use Rattle.std.proofs.lemmas.Bool.{cases_lt, cases_eq, both_ways, eq-eqb, ne_eqb}
use Rattle.std.proofs.lemmas.Bool.Decides.{nat_tests}
use Rattle.std.proofs.lemmas.Grind.{get_or-set_at}
use Rattle.std.proofs.lemmas.List.{get_or_past, get_or-set_other}
use Rattle.tl_tree_locking.specs.Order.{stands, IsDistinct, put_before}
use Rattle.tl_serial_order.specs.Line.{IsLine}

pub stands-insert : (order : List ℕ) (place c d : ℕ) → stands d (insert order place c) ≡ ((c == d) || stands d order)
stands-insert [] zero c d = refl
stands-insert [] (suc place) c d = refl
stands-insert (e ∷ es) zero c d = refl
stands-insert (e ∷ es) (suc place) c d = let ih = stands-insert es place c d in grind (arith, ih)

pub IsDistinct-insert : (order : List ℕ) (place c : ℕ) → stands c order ≡ false → IsDistinct order → IsDistinct (insert order place c)
IsDistinct-insert [] zero c out h = (out, h)
IsDistinct-insert [] (suc place) c out h = (out, h)
IsDistinct-insert (e ∷ es) zero c out h = (out, h)
IsDistinct-insert (e ∷ es) (suc place) c out h =
    let i : stands c es ≡ false = grind (arith, out) in
    let ne : (c == e) ≡ false = grind (arith, nat_tests, out) in
    let s = stands-insert es place c e in
    (grind (arith, s, ne, h.0), IsDistinct-insert es place c i h.1)

stands-at : (order : List ℕ) (k d : ℕ) → k < length order → stands (get_or order k d) order ≡ true
stands-at [] k d inside = absurd (omega arith)
stands-at (e ∷ es) zero d inside = let q = eq-eqb e e refl in grind (arith, q)
stands-at (e ∷ es) (suc k) d inside = let ih = stands-at es k d (omega arith) in grind (arith, ih)

-- each call in the order has an entry in the column
pub line_known : (order : List ℕ) (column : List Bool) → IsLine order column → All (λ c. c < length column) order
line_known order column line k d inside =
    let c = get_or order k d in
    elim (cases_lt c (length column)) [
      | inl h ↦ h
      | inr past ↦
          let none : get_or column c false ≡ false = get_or_past column c false past in
          let here = stands-at order k d inside in
          let same = line.standing c in
          absurd (both_ways (stands c order) (grind (arith, same, none)) here)
    ]

-- the position is that of the first call that passes the test, or the end
pub put_before-insert : (test : ℕ → Bool) (c : ℕ) (order : List ℕ) (place d : ℕ) → place ≤ length order
    → ((j : ℕ) → j < place → test (get_or order j d) ≡ false) → (place < length order → test (get_or order place d) ≡ true)
    → put_before test c order ≡ insert order place c
put_before-insert test c [] zero d within before here = refl
put_before-insert test c [] (suc place) d within before here = refl
put_before-insert test c (e ∷ es) zero d within before here = let h = here (omega arith) in rw h refl
put_before-insert test c (e ∷ es) (suc place) d within before here =
    let h = before 0 (omega arith) in
    rw h (ap (λ ds. e ∷ ds) (put_before-insert test c es place d (omega arith)
    (λ j l. before (suc j) (omega arith)) (λ l. here (omega arith))))

pub insert-end : (order : List ℕ) (c : ℕ) → insert order (length order) c ≡ order ++ c ∷ []
insert-end [] c = refl
insert-end (e ∷ es) c = ap (λ ds. e ∷ ds) (insert-end es c)

-- an order with one more call
pub line_more : (order : List ℕ) (column : List Bool) (place c : ℕ) → c < length column → stands c order ≡ false
    → IsLine order column → IsLine (insert order place c) (set column c true)
line_more order column place c inside out line = record {
  distinct = IsDistinct-insert order place c out line.distinct;
  standing = λ d.
      let more = stands-insert order place c d in
      let same = line.standing d in
      elim (cases_eq c d) [
        | inl e ↦
            let q = eq-eqb c d e in
            let now : get_or (set column c true) d false ≡ true = get_or-set_at column c d true false (sym e) inside in
            grind (arith, more, q, now)
        | inr other ↦
            let q = ne_eqb c d other in
            let now : get_or (set column c true) d false ≡ get_or column d false = get_or-set_other column c d true false (λ e. other (sym e)) in
            grind (arith, more, q, now, same)
      ];
}

-- a call occurs at only one position
IsDistinct-once : (order : List ℕ) → IsDistinct order → (j k d : ℕ) → j < k → k < length order → get_or order j d ≢ get_or order k d
IsDistinct-once [] once j k d lt inside same = absurd (omega arith)
IsDistinct-once (e ∷ es) once j zero d lt inside same = absurd (omega arith)
IsDistinct-once (e ∷ es) once zero (suc k) d lt inside same =
    let here = stands-at es k d (omega arith) in
    absurd (both_ways (stands e es) once.0 (subst (λ z. stands z es ≡ true) (sym same) here))
IsDistinct-once (e ∷ es) once (suc j) (suc k) d lt inside same = IsDistinct-once es once.1 j k d (omega arith) (omega arith) same

pub put_before-at : (c call : ℕ) (order : List ℕ) (place : ℕ) → IsDistinct order → place < length order → get_or order place 0 ≡ call
    → put_before (λ d. call == d) c order ≡ insert order place c
put_before-at c call order place once inside here =
    put_before-insert (λ d. call == d) c order place 0 (omega arith)
    (λ j before. ne_eqb call (get_or order j 0) (λ same. IsDistinct-once order once j place 0 before inside (sym same ∙ sym here)))
    (λ _. eq-eqb call (get_or order place 0) (sym here))

-- before a call that doesn't occur, the position is the end
pub put_before-nowhere : (c call : ℕ) (order : List ℕ) → All (λ d. d ≢ call) order → put_before (λ d. call == d) c order ≡ insert order (length order) c
put_before-nowhere c call order none =
    put_before-insert (λ d. call == d) c order (length order) 0 (omega arith)
    (λ j before. ne_eqb call (get_or order j 0) (λ same. none j 0 before (sym same)))
    (λ inside. absurd (omega arith))
