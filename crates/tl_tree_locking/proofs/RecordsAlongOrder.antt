-- The records that the calls of an order leave one after another are those of the history.
use Rattle.std.proofs.Common.{◌≡◌, ◌≢◌, ℕ, ◌==◌, true, false, List, [], ◌∷◌, ◌++◌, refl, sym, ◌∙◌, subst, inl, inr, arith}
use Rattle.std.proofs.lemmas.Bool.{cases_Bool, cases_eq, both_ways, eqb-true, ne_eqb, eq-eqb}
use Rattle.tl_tree.specs.Records.{Record, Records, record_at}
use Rattle.tl_tree_locking.specs.declared.action.Action.{Action}
use Rattle.tl_tree_locking.specs.declared.action.Action.TheVariants as A
use Rattle.tl_tree_locking.specs.declared.event.Event.{Event}
use Rattle.tl_tree_locking.specs.declared.event.Event.TheVariants.{Admit, Lock, Free, Done}
use Rattle.tl_tree_locking.specs.Actions.{locked, held, freed, has_ended, found_in, left_in, Permitted, EachPermitted}
use Rattle.tl_tree_locking.specs.History.{part_of, Apart, last_left, Follows, IsLegalHistory}
use Rattle.tl_tree_locking.specs.Order.{stands, before, IsDistinct, InLockOrder}
use Rattle.tl_tree_locking.proofs.MayComeLemmas.{held-locked}
use Rattle.tl_tree_locking.proofs.Orders.{before-right, before_cut, cut_apart, cut_not_behind}
use Rattle.tl_tree_locking.proofs.PartLemmas.{part_of-lock, part_of-free, part_of-other, legal_before, locked-lock, held-lock, held-free, held-done, locked-free, locked-done}

not_freed : (done : List Action) (x : ℕ) (r : Record) → freed done x ≡ false → left_in done x r ≡ r
not_freed [] x r h = refl
not_freed (A.Lock y found ∷ done) x r h = not_freed done x r h
not_freed (A.Read y field n ∷ done) x r h = not_freed done x r h
not_freed (A.Write y field n ∷ done) x r h = not_freed done x r h
not_freed (A.Free y left ∷ done) x r h = let ih = not_freed done x r in grind (arith, h, ih)
not_freed (A.Emit n ∷ done) x r h = not_freed done x r h
not_freed (A.End ∷ done) x r h = not_freed done x r h
not_freed (A.Plain ∷ done) x r h = not_freed done x r h

pub freed-locked : (parents : List ℕ) (done : List Action) (x : ℕ) → EachPermitted parents done → freed done x ≡ true → locked done x ≡ true
freed-locked parents [] x obeys h = h
freed-locked parents (A.Lock y found ∷ done) x obeys h = let ih = freed-locked parents done x obeys.2 h in grind (arith, ih)
freed-locked parents (A.Read y field n ∷ done) x obeys h = freed-locked parents done x obeys.2 h
freed-locked parents (A.Write y field n ∷ done) x obeys h = freed-locked parents done x obeys.2 h
freed-locked parents (A.Free y left ∷ done) x obeys h =
    let ih = freed-locked parents done x obeys.2 in
    let l = held-locked done y obeys.0 in
    elim (cases_eq y x) [ inl same ↦ subst (λ z. locked done z ≡ true) same l | inr other ↦ let ne = ne_eqb y x other in ih (rw ne at h) ]
freed-locked parents (A.Emit n ∷ done) x obeys h = freed-locked parents done x obeys.2 h
freed-locked parents (A.End ∷ done) x obeys h = freed-locked parents done x obeys.2 h
freed-locked parents (A.Plain ∷ done) x obeys h = freed-locked parents done x obeys.2 h

-- the record of x after these calls, one after another
abbrev pub laid : List Event → ℕ → Record → List ℕ → Record
laid past x r [] = r
laid past x r (c ∷ cs) = laid past x (left_in (part_of c past) x r) cs

pub laid-append : (past : List Event) (x : ℕ) (r : Record) (cs ds : List ℕ) → laid past x r (cs ++ ds) ≡ laid past x (laid past x r cs) ds
laid-append past x r [] ds = refl
laid-append past x r (c ∷ cs) ds = laid-append past x (left_in (part_of c past) x r) cs ds

-- an event after which each of these calls leaves the same record at x doesn't change the result
laid-same : (e : Event) (past : List Event) (x : ℕ) (r : Record) (cs : List ℕ) → ((c : ℕ) (s : Record) → stands c cs ≡ true → left_in (part_of c (e ∷ past)) x s ≡ left_in (part_of c past) x s)
    → laid (e ∷ past) x r cs ≡ laid past x r cs
laid-same e past x r [] same = refl
laid-same e past x r (c ∷ cs) same =
    let self = eq-eqb c c refl in
    let q = same c r (grind (arith, self)) in
    rw q (laid-same e past x (left_in (part_of c past) x r) cs (λ d s h. same d s (grind (arith, h))))

-- calls that haven't freed x don't change its record
laid-none : (past : List Event) (x : ℕ) (r : Record) (cs : List ℕ) → ((c : ℕ) → stands c cs ≡ true → freed (part_of c past) x ≡ false) → laid past x r cs ≡ r
laid-none past x r [] h = refl
laid-none past x r (c ∷ cs) h =
    let self = eq-eqb c c refl in
    let q = not_freed (part_of c past) x r (h c (grind (arith, self))) in
    rw q (laid-none past x r cs (λ d k. h d (grind (arith, k))))

-- if every other call that freed x comes before c, the record of x is the one that c left
laid-last : (past : List Event) (x : ℕ) (r left : Record) (cs : List ℕ) (c : ℕ) → IsDistinct cs → stands c cs ≡ true → ((s : Record) → left_in (part_of c past) x s ≡ left)
    → ((d : ℕ) → d ≢ c → stands d cs ≡ true → freed (part_of d past) x ≡ true → before cs d c ≡ true) → laid past x r cs ≡ left
laid-last past x r left [] c once here is ahead = absurd (both_ways false refl here)
laid-last past x r left (e ∷ es) c once here is ahead =
    let apart : (d : ℕ) → stands d es ≡ true → (e == d) ≡ false = λ d k. ne_eqb e d (λ (w : e ≡ d). both_ways (stands e es) once.0 (subst (λ z. stands z es ≡ true) (sym w) k)) in
    let rest : (d : ℕ) → d ≢ c → stands d es ≡ true → freed (part_of d past) x ≡ true → before es d c ≡ true =
    λ d ne k f. let b : before (e ∷ es) d c ≡ true = ahead d ne (grind (arith, k)) f in let q = apart d k in rw q at b in
    elim (cases_eq e c) [
      | inl same ↦
          let q : left_in (part_of e past) x r ≡ left = subst (λ z. left_in (part_of z past) x r ≡ left) (sym same) (is r) in
          let out : stands c es ≡ false = subst (λ z. stands z es ≡ false) same once.0 in
          rw q (laid-none past x left es (λ d k. elim (cases_Bool (freed (part_of d past) x)) [
            | inl f ↦
                let ne : d ≢ c = λ (w : d ≡ c). both_ways (stands c es) out (subst (λ z. stands z es ≡ true) w k) in
                absurd (both_ways (stands c es) out (before-right es d c (rest d ne k f)))
            | inr f ↦ f
          ]))
      | inr other ↦
          let ne = ne_eqb e c other in
          let there : stands c es ≡ true = rw ne at here in
          laid-last past x (left_in (part_of e past) x r) left es c once.1 there is rest
    ]

-- a call that has locked a node comes before the call that holds it
pub before_holder : (order : List ℕ) (past : List Event) → InLockOrder order past → Apart past → (c d x : ℕ) → held (part_of c past) x ≡ true → locked (part_of d past) x ≡ true → d ≢ c → before order d c ≡ true
before_holder order [] sorted apart c d x h l ne = absurd (both_ways false refl h)
before_holder order (Admit e ∷ past) sorted apart c d x h l ne = before_holder order past sorted apart c d x h l ne
before_holder order (Lock y e found ∷ past) sorted apart c d x h l ne =
    elim (held-lock e y found past c x h) [
      | inl new ↦ elim (locked-lock e y found past d x l) [
        | inl new' ↦ absurd (ne (sym new'.0 ∙ new.0))
        | inr old' ↦ subst (λ z. before order d z ≡ true) new.0 (sorted.0 d (subst (λ z. locked (part_of d past) z ≡ true) (sym new.1) old'))
      ]
      | inr old ↦ elim (locked-lock e y found past d x l) [
        | inl new' ↦ absurd (both_ways (held (part_of c past) x) (subst (λ z. held (part_of c past) z ≡ false) new'.1 (apart.0 c)) old)
        | inr old' ↦ before_holder order past sorted.1 apart.1 c d x old old' ne
      ]
    ]
before_holder order (Free y e left ∷ past) sorted apart c d x h l ne = let q = locked-free e y left past d x in before_holder order past sorted apart c d x (held-free e y left past c x h) (rw q at l) ne
before_holder order (Done e ∷ past) sorted apart c d x h l ne = let q = locked-done e past d x in before_holder order past sorted apart c d x (held-done e past c x h) (rw q at l) ne

left_in-lock : (e y : ℕ) (found : Record) (past : List Event) (c x : ℕ) (s : Record) → left_in (part_of c (Lock y e found ∷ past)) x s ≡ left_in (part_of c past) x s
left_in-lock e y found past c x s = elim (cases_Bool (e == c)) [ inl h ↦ rw h refl | inr h ↦ rw h refl ]

left_in-done : (e : ℕ) (past : List Event) (c x : ℕ) (s : Record) → left_in (part_of c (Done e ∷ past)) x s ≡ left_in (part_of c past) x s
left_in-done e past c x s = elim (cases_Bool (e == c)) [ inl h ↦ rw h refl | inr h ↦ rw h refl ]

-- a free of another node doesn't change what a call left at x
left_in-free_node : (e y : ℕ) (left : Record) (past : List Event) (c x : ℕ) (s : Record) → (y == x) ≡ false → left_in (part_of c (Free y e left ∷ past)) x s ≡ left_in (part_of c past) x s
left_in-free_node e y left past c x s ne = elim (cases_Bool (e == c)) [ inl h ↦ rw h (rw ne refl) | inr h ↦ rw h refl ]

left_in-free_call : (e y : ℕ) (left : Record) (past : List Event) (c x : ℕ) (s : Record) → e ≢ c → left_in (part_of c (Free y e left ∷ past)) x s ≡ left_in (part_of c past) x s
left_in-free_call e y left past c x s ne = let q = ne_eqb e c ne in rw q refl

-- a call frees only a node that it holds
pub free_held : (parents : List ℕ) (e y : ℕ) (left : Record) (past : List Event) → IsLegalHistory parents (Free y e left ∷ past) → held (part_of e past) y ≡ true
free_held parents e y left past legal =
    let q = part_of-free e y left past in
    let mine : Permitted parents (part_of e past) (A.Free y left) × (has_ended (part_of e past) ≡ false) × EachPermitted parents (part_of e past) = rw q at (legal.obeys e) in
    mine.0

-- a legal history, and an order that is in the order of its locks
pub record Sorted (parents order : List ℕ) (past : List Event) : Type 0 where
  pub legal : IsLegalHistory parents past
  pub sorted : InLockOrder order past

sorted_before : (parents order : List ℕ) (e : Event) (past : List Event) → Sorted parents order (e ∷ past) → Sorted parents order past
sorted_before parents order (Admit d) past h = record { legal = legal_before parents (Admit d) past h.legal; sorted = h.sorted }
sorted_before parents order (Lock x d found) past h = record { legal = legal_before parents (Lock x d found) past h.legal; sorted = h.sorted.1 }
sorted_before parents order (Free x d left) past h = record { legal = legal_before parents (Free x d left) past h.legal; sorted = h.sorted }
sorted_before parents order (Done d) past h = record { legal = legal_before parents (Done d) past h.legal; sorted = h.sorted }

-- the calls of the order leave, one after another, the records of the history
pub laid-last_left : (parents order : List ℕ) → IsDistinct order → (past : List Event) → Sorted parents order past → ((c x : ℕ) → locked (part_of c past) x ≡ true → stands c order ≡ true) → (x : ℕ) (r : Record)
    → laid past x r order ≡ last_left past x r
laid-last_left parents order once [] h in_order x r = laid-none [] x r order (λ c k. refl)
laid-last_left parents order once (Admit c ∷ past) h in_order x r =
    laid-same (Admit c) past x r order (λ d s k. refl) ∙ laid-last_left parents order once past (sorted_before parents order (Admit c) past h) in_order x r
laid-last_left parents order once (Lock y c found ∷ past) h in_order x r =
    laid-same (Lock y c found) past x r order (λ d s k. left_in-lock c y found past d x s)
    ∙ laid-last_left parents order once past (sorted_before parents order (Lock y c found) past h)
    (λ d z l. in_order d z (elim (cases_Bool (c == d)) [ inl q ↦ rw q (grind (arith, l)) | inr q ↦ rw q l ])) x r
laid-last_left parents order once (Done c ∷ past) h in_order x r =
    laid-same (Done c) past x r order (λ d s k. left_in-done c past d x s)
    ∙ laid-last_left parents order once past (sorted_before parents order (Done c) past h) (λ d z l. in_order d z (let q = locked-done c past d z in rw q l)) x r
laid-last_left parents order once (Free y c left ∷ past) h in_order x r =
    let before' = sorted_before parents order (Free y c left) past h in
    let in_order' : (d z : ℕ) → locked (part_of d past) z ≡ true → stands d order ≡ true = λ d z l. in_order d z (let q = locked-free c y left past d z in rw q l) in
    elim (cases_Bool (y == x)) [
      | inl here ↦
          let same : y ≡ x = eqb-true y x here in
          let holds : held (part_of c past) x ≡ true = subst (λ z. held (part_of c past) z ≡ true) same (free_held parents c y left past h.legal) in
          let q = part_of-free c y left past in
          rw here (laid-last (Free y c left ∷ past) x r left order c once (in_order' c x (held-locked (part_of c past) x holds))
          (λ s. rw q (rw here refl))
          (λ d ne k f.
          let q2 = part_of-other (Free y c left) d past (λ (w : c ≡ d). ne (sym w)) in
          let f2 : freed (part_of d past) x ≡ true = rw q2 at f in
          before_holder order past before'.sorted before'.legal.apart c d x holds (freed-locked parents (part_of d past) x (before'.legal.obeys d) f2) ne))
      | inr other ↦ rw other (laid-same (Free y c left) past x r order (λ d s k. left_in-free_node c y left past d x s other) ∙ laid-last_left parents order once past before' in_order' x r)
    ]

found_in-lock_other : (e y : ℕ) (found : Record) (past : List Event) (c x : ℕ) (r : Record) → ((e ≡ c) × (y ≡ x) → ⊥) → found_in (part_of c (Lock y e found ∷ past)) x r ≡ found_in (part_of c past) x r
found_in-lock_other e y found past c x r ne = elim (cases_Bool (e == c)) [
  | inl h ↦ elim (cases_Bool (y == x)) [ inl k ↦ absurd (ne (eqb-true e c h, eqb-true y x k)) | inr k ↦ rw h (rw k refl) ]
  | inr h ↦ rw h refl
]

found_in-free : (e y : ℕ) (left : Record) (past : List Event) (c x : ℕ) (r : Record) → found_in (part_of c (Free y e left ∷ past)) x r ≡ found_in (part_of c past) x r
found_in-free e y left past c x r = elim (cases_Bool (e == c)) [ inl h ↦ rw h refl | inr h ↦ rw h refl ]

found_in-done : (e : ℕ) (past : List Event) (c x : ℕ) (r : Record) → found_in (part_of c (Done e ∷ past)) x r ≡ found_in (part_of c past) x r
found_in-done e past c x r = elim (cases_Bool (e == c)) [ inl h ↦ rw h refl | inr h ↦ rw h refl ]

-- a call locks only a node that it hasn't locked
lock_fresh : (parents : List ℕ) (e y : ℕ) (found : Record) (past : List Event) → IsLegalHistory parents (Lock y e found ∷ past) → locked (part_of e past) y ≡ false
lock_fresh parents e y found past legal =
    let q = part_of-lock e y found past in
    let mine : Permitted parents (part_of e past) (A.Lock y found) × (has_ended (part_of e past) ≡ false) × EachPermitted parents (part_of e past) = rw q at (legal.obeys e) in
    mine.0.0

-- what a call found at a node is what the calls before it in the order left there
pub laid-found : (parents front back : List ℕ) (c : ℕ) → IsDistinct (front ++ c ∷ back) → (opening : Records) (past : List Event) → Sorted parents (front ++ c ∷ back) past → Follows opening past
    → ((d x : ℕ) → locked (part_of d past) x ≡ true → stands d (front ++ c ∷ back) ≡ true) → (x : ℕ) → locked (part_of c past) x ≡ true
    → laid past x (record_at opening x) front ≡ found_in (part_of c past) x (record_at opening x)
laid-found parents front back c once opening [] h follows in_order x l = absurd (both_ways false refl l)
laid-found parents front back c once opening (Admit e ∷ past) h follows in_order x l =
    laid-same (Admit e) past x (record_at opening x) front (λ d s k. refl) ∙ laid-found parents front back c once opening past (sorted_before parents (front ++ c ∷ back) (Admit e) past h) follows in_order x l
laid-found parents front back c once opening (Lock y e found ∷ past) h follows in_order x l =
    let order = front ++ c ∷ back in
    let r = record_at opening x in
    let before' = sorted_before parents order (Lock y e found) past h in
    let in_order' : (d z : ℕ) → locked (part_of d past) z ≡ true → stands d order ≡ true =
    λ d z k. in_order d z (elim (cases_Bool (e == d)) [ inl q ↦ rw q (grind (arith, k)) | inr q ↦ rw q k ]) in
    let same = laid-same (Lock y e found) past x r front (λ d s k. left_in-lock e y found past d x s) in
    elim (locked-lock e y found past c x l) [
      | inl new ↦
          let fresh : locked (part_of c past) x ≡ false = subst (λ z. locked (part_of z past) x ≡ false) new.0 (subst (λ z. locked (part_of e past) z ≡ false) new.1 (lock_fresh parents e y found past h.legal)) in
          let at_e : (e == c) ≡ true = eq-eqb e c new.0 in
          let at_y : (y == x) ≡ true = eq-eqb y x new.1 in
          let is_now : found ≡ last_left past x r = subst (λ z. found ≡ last_left past z (record_at opening z)) new.1 follows.0 in
          let whole = laid-last_left parents order once past before' in_order' x r in
          let cut = laid-append past x r front (c ∷ back) in
          let rest = laid-none past x (laid past x r front) (c ∷ back) (λ d k. elim (cases_Bool (freed (part_of d past) x)) [
            | inl f ↦
                let ld = freed-locked parents (part_of d past) x (before'.legal.obeys d) f in
                let b : before order d e ≡ true = h.sorted.0 d (subst (λ z. locked (part_of d past) z ≡ true) (sym new.1) ld) in
                absurd (cut_apart front back c d once (before_cut front back c d once (subst (λ z. before order d z ≡ true) new.0 b)) k)
            | inr f ↦ f
          ]) in
          let value : found_in (part_of c (Lock y e found ∷ past)) x r ≡ found = rw at_e (rw at_y refl) in
          same ∙ sym rest ∙ sym cut ∙ whole ∙ sym is_now ∙ sym value
      | inr old ↦
          same ∙ laid-found parents front back c once opening past before' follows.1 in_order' x old
          ∙ sym (found_in-lock_other e y found past c x r (λ w. both_ways (locked (part_of c past) x) (subst (λ z. locked (part_of z past) x ≡ false) w.0 (subst (λ z. locked (part_of e past) z ≡ false) w.1 (lock_fresh parents e y found past h.legal))) old))
    ]
laid-found parents front back c once opening (Done e ∷ past) h follows in_order x l =
    let q = locked-done e past c x in
    laid-same (Done e) past x (record_at opening x) front (λ d s k. left_in-done e past d x s)
    ∙ laid-found parents front back c once opening past (sorted_before parents (front ++ c ∷ back) (Done e) past h) follows (λ d z k. in_order d z (let q2 = locked-done e past d z in rw q2 k)) x (rw q at l)
    ∙ sym (found_in-done e past c x (record_at opening x))
laid-found parents front back c once opening (Free y e left ∷ past) h follows in_order x l =
    let order = front ++ c ∷ back in
    let r = record_at opening x in
    let before' = sorted_before parents order (Free y e left) past h in
    let q = locked-free e y left past c x in
    let l' : locked (part_of c past) x ≡ true = rw q at l in
    let same : (d : ℕ) (s : Record) → stands d front ≡ true → left_in (part_of d (Free y e left ∷ past)) x s ≡ left_in (part_of d past) x s =
    λ d s k. elim (cases_Bool (y == x)) [
      | inl here ↦ elim (cases_eq e d) [
        | inl mine ↦
            let holds : held (part_of d past) x ≡ true = subst (λ z. held (part_of z past) x ≡ true) mine (subst (λ z. held (part_of e past) z ≡ true) (eqb-true y x here) (free_held parents e y left past h.legal)) in
            let ne : c ≢ d = λ (w : c ≡ d). cut_apart front back c d once k (let self = eq-eqb c d w in grind (arith, self)) in
            absurd (cut_not_behind front back c d once k (before_holder order past before'.sorted before'.legal.apart d c x holds l' ne))
        | inr other ↦ left_in-free_call e y left past d x s other
      ]
      | inr away ↦ left_in-free_node e y left past d x s away
    ] in
    laid-same (Free y e left) past x r front same
    ∙ laid-found parents front back c once opening past before' follows (λ d z k. in_order d z (let q2 = locked-free e y left past d z in rw q2 k)) x l'
    ∙ sym (found_in-free e y left past c x r)
