-- The laws of nested loops.
use Rattle.std.proofs.Common.{◌≡◌, ℕ, zero, suc, ◌+◌, ◌-◌, ◌<◌, ◌≤◌, List, [], ◌∷◌, Option, Some, None, Bool, true, false, refl, sym, ap, ◌∙◌, subst, arith}
use Rattle.std.specs.Prelude.{slice_get, nat_lt, nat_le, option_map, drop, ◌≢◌, cond, if◌then◌else◌}
use Rattle.std.proofs.lemmas.Bool.Decides.{nat_tests}
use Rattle.std.proofs.Math.Seq.{drop-nil}
use Rattle.tl_instr.specs.declared.instr.Instr.{Instr}
use Rattle.std.proofs.lemmas.Bool.{le-ltb, lt-ltb, leb-false}
use Rattle.tl_budget.specs.Loops.{Kind, Opens, Closes, Returns, Acts, kind, kind_at, closing, closing_by, Loop, loop_at, loop_by, with_loop, around_from, around, Matched, IsAround}

-- if `option_map suc o` is Some k, o is Some of the number before k
from_suc : (o : Option ℕ) (k : ℕ) → option_map suc o ≡ Some k → (m : ℕ) × (o ≡ Some m) × (suc m ≡ k)
from_suc None k e = cc
from_suc (Some m) k e = let h : suc m ≡ k = cc in (m, refl, h)

-- a loop further out is closed later
Later : (ℕ → Option ℕ) → Type 0
Later f = (d k : ℕ) → f (suc d) ≡ Some k → (m : ℕ) × (f d ≡ Some m) × (m < k)

later_by : (c : Kind) (f : ℕ → Option ℕ) → Later f → Later (closing_by c f)
unfolding Later
later_by (Opens w) f rest d k e =
    let a = from_suc (f (suc (suc d))) k e in
    let b = rest (suc d) a.0 a.1 in
    (suc b.0, ap (option_map suc) b.1, let x = a.2 in let y = b.2 in omega arith)
later_by Closes f rest zero k e = let a = from_suc (f zero) k e in (0, refl, let x = a.2 in omega arith)
later_by Closes f rest (suc d) k e =
    let a = from_suc (f (suc d)) k e in
    let b = rest d a.0 a.1 in
    (suc b.0, ap (option_map suc) b.1, let x = a.2 in let y = b.2 in omega arith)
later_by Returns f rest d k e =
    let a = from_suc (f (suc d)) k e in
    let b = rest d a.0 a.1 in
    (suc b.0, ap (option_map suc) b.1, let x = a.2 in let y = b.2 in omega arith)
later_by Acts f rest d k e =
    let a = from_suc (f (suc d)) k e in
    let b = rest d a.0 a.1 in
    (suc b.0, ap (option_map suc) b.1, let x = a.2 in let y = b.2 in omega arith)

later : (is : List Instr) → Later (closing is)
unfolding Later
later [] d k e = cc
later (i ∷ is) d k e = later_by (kind i) (closing is) (later is) d k e

-- the innermost loop is closed first
soonest : (is : List Instr) (d k : ℕ) → closing is d ≡ Some k → (m : ℕ) × (closing is 0 ≡ Some m) × (m ≤ k)
unfolding Later
soonest is zero k e = (k, e, omega arith)
soonest is (suc d) k e =
    let a = later is d k e in
    let b = soonest is d a.0 a.1 in
    (b.0, b.1, let x = a.2 in let y = b.2 in omega arith)

-- the instruction that closes is an end
is_end : (is : List Instr) (d k : ℕ) → closing is d ≡ Some k → kind_at is k ≡ Some Closes
is_end [] d k e = cc
is_end (i ∷ is) d k e = by (kind i) refl d k e (λ d k e. is_end is d k e)
  where
    on : (d k : ℕ) → option_map suc (closing is d) ≡ Some k → ((d k : ℕ) → closing is d ≡ Some k → kind_at is k ≡ Some Closes) → kind_at (i ∷ is) k ≡ Some Closes
    on d k e rest = let a = from_suc (closing is d) k e in subst (λ n. kind_at (i ∷ is) n ≡ Some Closes) a.2 (rest d a.0 a.1)

    by : (c : Kind) → kind i ≡ c → (d k : ℕ) → closing_by c (closing is) d ≡ Some k → ((d k : ℕ) → closing is d ≡ Some k → kind_at is k ≡ Some Closes) → kind_at (i ∷ is) k ≡ Some Closes
    by (Opens w) h d k e rest = on (suc d) k e rest
    by Closes h zero k e rest = let z : 0 ≡ k = cc in subst (λ n. kind_at (i ∷ is) n ≡ Some Closes) z (ap Some h)
    by Closes h (suc d) k e rest = on d k e rest
    by Returns h d k e rest = on d k e rest
    by Acts h d k e rest = on d k e rest

-- a loop that opens on the way is closed on the way
Between : List Instr → ℕ → ℕ → Type 0
Between is j k = (m : ℕ) × (closing (drop (suc j) is) 0 ≡ Some m) × (j + 1 + m < k)

between : (is : List Instr) (d k j w : ℕ) → closing is d ≡ Some k → j < k → kind_at is j ≡ Some (Opens w) → Between is j k
unfolding Between Later
between [] d k j w e lt o = cc
between (i ∷ is) d k zero w e lt o =
    let same : kind i ≡ Opens w = cc in
    let a = from_suc (closing is (suc d)) k (subst (λ c. closing_by c (closing is) d ≡ Some k) same e) in
    let b = later is d a.0 a.1 in
    let f = soonest is d b.0 b.1 in
    (f.0, f.1, let x = a.2 in let y = b.2 in let z = f.2 in omega arith)
between (i ∷ is) d k (suc j) w e lt o = by (kind i) d k e lt (λ d k e lt. between is d k j w e lt o)
  where
    on : (d k : ℕ) → option_map suc (closing is d) ≡ Some k → suc j < k → ((d k : ℕ) → closing is d ≡ Some k → j < k → Between is j k) → Between (i ∷ is) (suc j) k
    on d k e lt rest =
        let a = from_suc (closing is d) k e in
        let less : j < a.0 = let x = a.2 in omega arith in
        let b = rest d a.0 a.1 less in
        (b.0, b.1, let x = a.2 in let y = b.2 in omega arith)

    by : (c : Kind) (d k : ℕ) → closing_by c (closing is) d ≡ Some k → suc j < k → ((d k : ℕ) → closing is d ≡ Some k → j < k → Between is j k) → Between (i ∷ is) (suc j) k
    by (Opens w) d k e lt rest = on (suc d) k e lt rest
    by Closes zero k e lt rest = let z : 0 ≡ k = cc in absurd (omega arith)
    by Closes (suc d) k e lt rest = on d k e lt rest
    by Returns d k e lt rest = on d k e lt rest
    by Acts d k e lt rest = on d k e lt rest

kind_at-drop : (n k : ℕ) (code : List Instr) → kind_at (drop n code) k ≡ kind_at code (n + k)
kind_at-drop zero k code = let e : k ≡ 0 + k = omega arith in ap (kind_at code) e
kind_at-drop (suc n) k [] = refl
kind_at-drop (suc n) k (i ∷ is) = let e : suc (n + k) ≡ suc n + k = omega arith in kind_at-drop n k is ∙ ap (kind_at (i ∷ is)) e

drop_drop : (m n : ℕ) (code : List Instr) → drop m (drop n code) ≡ drop (n + m) code
drop_drop m zero code = let e : m ≡ 0 + m = omega arith in ap (λ k. drop k code) e
drop_drop m (suc n) [] = drop-nil m ∙ sym (drop-nil (suc n + m))
drop_drop m (suc n) (i ∷ is) = let e : suc (n + m) ≡ suc n + m = omega arith in drop_drop m n is ∙ ap (λ k. drop k (i ∷ is)) e

-- the parts of a loop
Made : List Instr → ℕ → Loop → Type 0
Made code o l = (w k : ℕ) × (kind_at code o ≡ Some (Opens w)) × (closing (drop (o + 1) code) 0 ≡ Some k) × (l.opening ≡ o) × (l.close ≡ o + 1 + k) × (l.count ≡ w)

made_by : (code : List Instr) (o : ℕ) (c : Option Kind) (l : Loop) → loop_by code o c ≡ Some l → (w k : ℕ) × (c ≡ Some (Opens w)) × (closing (drop (o + 1) code) 0 ≡ Some k) × (l.opening ≡ o) × (l.close ≡ o + 1 + k) × (l.count ≡ w)
made_by code o None l e = cc
made_by code o (Some Closes) l e = cc
made_by code o (Some Returns) l e = cc
made_by code o (Some Acts) l e = cc
made_by code o (Some (Opens w)) l e = found (closing (drop (o + 1) code) 0) refl e
  where
    found : (c : Option ℕ) → closing (drop (o + 1) code) 0 ≡ c → option_map (λ k. let m : Loop = record { opening = o; close = o + 1 + k; count = w } in m) c ≡ Some l → (v k : ℕ) × (Some (Opens w) ≡ Some (Opens v)) × (closing (drop (o + 1) code) 0 ≡ Some k) × (l.opening ≡ o) × (l.close ≡ o + 1 + k) × (l.count ≡ v)
    found None h e = cc
    found (Some k) h e =
        let m : Loop = record { opening = o; close = o + 1 + k; count = w } in
        let same : l ≡ m = cc in
        (w, k, refl, h, ap (λ (x : Loop). x.opening) same, ap (λ (x : Loop). x.close) same, ap (λ (x : Loop). x.count) same)

made : (code : List Instr) (o : ℕ) (l : Loop) → loop_at code o ≡ Some l → Made code o l
unfolding Made loop_at
made code o l e = made_by code o (kind_at code o) l e

-- a loop's opening is the position where it is found
pub opening_is : (code : List Instr) (o : ℕ) (l : Loop) → loop_at code o ≡ Some l → l.opening ≡ o
unfolding Made
opening_is code o l e = (made code o l e).4

-- a loop closes after its opening
pub closes_after : (code : List Instr) (o : ℕ) (l : Loop) → loop_at code o ≡ Some l → o < l.close
unfolding Made
closes_after code o l e = let m = made code o l e in let x = m.5 in omega arith

-- a loop's end is an end
pub closes_at_end : (code : List Instr) (o : ℕ) (l : Loop) → loop_at code o ≡ Some l → kind_at code l.close ≡ Some Closes
unfolding Made
closes_at_end code o l e =
    let m = made code o l e in
    ap (kind_at code) m.5 ∙ sym (kind_at-drop (o + 1) m.1 code) ∙ is_end (drop (o + 1) code) 0 m.1 m.3

-- a loop that opens in the body of another closes before it
pub nested : (code : List Instr) (o p : ℕ) (l k : Loop) → loop_at code o ≡ Some l → loop_at code p ≡ Some k → o < p → p < l.close → k.close < l.close
unfolding Made Between
nested code o p l k e f lt inside =
    let a = made code o l e in
    let b = made code p k f in
    let j = p - (o + 1) in
    let is = drop (o + 1) code in
    let at : o + 1 + j ≡ p = omega arith in
    let opens : kind_at is j ≡ Some (Opens b.0) = kind_at-drop (o + 1) j code ∙ ap (kind_at code) at ∙ b.2 in
    let below : j < a.1 = let x = a.5 in omega arith in
    let m = between is 0 a.1 j b.0 a.3 below opens in
    let there : o + 1 + suc j ≡ p + 1 = omega arith in
    let d : drop (suc j) is ≡ drop (p + 1) code = drop_drop (suc j) (o + 1) code ∙ ap (λ n. drop n code) there in
    let same : Some m.0 ≡ Some b.1 = sym m.1 ∙ ap (λ s. closing s 0) d ∙ b.3 in
    let eq : m.0 ≡ b.1 = cc in
    let x = m.2 in let y = b.5 in let z = a.5 in
    omega arith

le-leb : (a b : ℕ) → a ≤ b → nat_le a b ≡ true
le-leb a b h = grind (arith, nat_tests)

lt-leb : (a b : ℕ) → a < b → nat_le b a ≡ false
lt-leb a b h = grind (arith, nat_tests)

leb-le : (a b : ℕ) → nat_le a b ≡ true → a ≤ b
leb-le a b h = grind (arith, nat_tests)

same_test : (a b c : ℕ) → (a ≤ c → b ≤ c) → (b ≤ c → a ≤ c) → nat_le a c ≡ nat_le b c
same_test a b c f g = go (nat_le a c) (nat_le b c) refl refl
  where
    go : (x y : Bool) → nat_le a c ≡ x → nat_le b c ≡ y → x ≡ y
    go true true e h = refl
    go false false e h = refl
    go true false e h = let z = le-leb b c (f (leb-le a c e)) in cc
    go false true e h = let z = le-leb a c (g (leb-le b c h)) in cc

-- the loops that still contain r, if control goes forward to r and enters no loop
abbrev pub reaching : ℕ → List Loop → List Loop
reaching r [] = []
reaching r (l ∷ ls) = if nat_lt l.close r then reaching r ls else l ∷ ls

-- Loops nest: the loops around a position are determined by those around the previous one.
pub record Nests (code : List Instr) : Type 0 where
  pub acts : (p : ℕ) (i : Instr) → slice_get code p ≡ Some i → kind i ≡ Acts → around code (p + 1) ≡ reaching (p + 1) (around code p)
  pub opens : (p w : ℕ) (i : Instr) → slice_get code p ≡ Some i → kind i ≡ Opens w → (l : Loop) × (loop_at code p ≡ Some l) × (l.count ≡ w) × (0 < w) × (around code (p + 1) ≡ l ∷ around code p)
  pub closes : (p : ℕ) (i : Instr) → slice_get code p ≡ Some i → kind i ≡ Closes → (l : Loop) × (ls : List Loop) × (around code p ≡ l ∷ ls) × (l.close ≡ p) × (around code (p + 1) ≡ ls) × (around code (l.opening + 1) ≡ l ∷ ls)
  pub inside : (p : ℕ) (i : Instr) (l : Loop) (ls : List Loop) → slice_get code p ≡ Some i → around code p ≡ l ∷ ls → (kind i ≡ Closes → ⊥) → p < l.close

module _ (code : List Instr) where
  around_agree : (o q r : ℕ) → ((n : ℕ) (l : Loop) → n < o → loop_at code n ≡ Some l → nat_le q l.close ≡ nat_le r l.close) → around_from code o q ≡ around_from code o r
  around_agree zero q r h = refl
  around_agree (suc o) q r h = one (loop_at code o) refl (around_agree o q r (λ n l lt e. h n l (omega arith) e))
    where
      one : (c : Option Loop) → loop_at code o ≡ c → around_from code o q ≡ around_from code o r → with_loop q c (around_from code o q) ≡ with_loop r c (around_from code o r)
      one None e same = same
      one (Some l) e same =
          ap (λ b. cond b (l ∷ around_from code o q) (around_from code o q)) (h o l (omega arith) e)
          ∙ ap (λ ls. cond (nat_le r l.close) (l ∷ ls) ls) same

  around_skip : (n o q : ℕ) → ((p : ℕ) (l : Loop) → o ≤ p → p < n + o → loop_at code p ≡ Some l → l.close < q) → around_from code (n + o) q ≡ around_from code o q
  around_skip zero o q h = let e : 0 + o ≡ o = omega arith in ap (λ k. around_from code k q) e
  around_skip (suc n) o q h =
      let e : suc n + o ≡ suc (n + o) = omega arith in
      ap (λ k. around_from code k q) e ∙ one (loop_at code (n + o)) refl ∙ around_skip n o q (λ p l le lt f. h p l le (omega arith) f)
    where
      one : (c : Option Loop) → loop_at code (n + o) ≡ c → with_loop q c (around_from code (n + o) q) ≡ around_from code (n + o) q
      one None f = refl
      one (Some l) f =
          let lt : l.close < q = h (n + o) l (omega arith) (omega arith) f in
          ap (λ b. cond b (l ∷ around_from code (n + o) q) (around_from code (n + o) q)) (lt-leb l.close q lt)

  -- the loop that ends at p is the innermost around it, and the loops outside it are those around the next position
  module _ (o p : ℕ) (l : Loop) (at : loop_at code o ≡ Some l) (close : l.close ≡ p) (behind : o < p) where
    skipped : (q : ℕ) → p ≤ q → around_from code p q ≡ with_loop q (Some l) (around_from code o q)
    skipped q le =
        let n = p - suc o in
        let e : p ≡ n + suc o = omega arith in
        ap (λ k. around_from code k q) e
        ∙ around_skip n (suc o) q (λ r k le' lt f. let inside = nested code o r l k at f (omega arith) (omega arith) in omega arith)
        ∙ ap (λ c. with_loop q c (around_from code o q)) at

    pub around_end : around code p ≡ l ∷ around_from code o p
    around_end =
        skipped p (omega arith)
        ∙ ap (λ b. cond b (l ∷ around_from code o p) (around_from code o p)) (le-leb p l.close (omega arith))

    pub around_next : loop_at code p ≡ None → around code (p + 1) ≡ around_from code o p
    around_next none =
        let e : p + 1 ≡ suc p = omega arith in
        ap (around code) e
        ∙ ap (λ c. with_loop (suc p) c (around_from code p (suc p))) none
        ∙ skipped (suc p) (omega arith)
        ∙ ap (λ b. cond b (l ∷ around_from code o (suc p)) (around_from code o (suc p))) (lt-leb l.close (suc p) (omega arith))
        ∙ around_agree o (suc p) p (λ n k lt f. same_test (suc p) p k.close (λ h. omega arith) (λ h. let ne : k.close ≢ p = λ g. let inside = nested code n o k l f at lt (omega arith) in omega arith in omega arith))

    pub around_body : l.opening ≡ o → around code (l.opening + 1) ≡ l ∷ around_from code o p
    around_body opens =
        let e : l.opening + 1 ≡ suc o = omega arith in
        ap (around code) e
        ∙ ap (λ c. with_loop (suc o) c (around_from code o (suc o))) at
        ∙ ap (λ b. cond b (l ∷ around_from code o (suc o)) (around_from code o (suc o))) (le-leb (suc o) l.close (omega arith))
        ∙ ap (λ ls. l ∷ ls) (around_agree o (suc o) p (λ n k lt f. same_test (suc o) p k.close (λ h. let inside = nested code n o k l f at lt (omega arith) in omega arith) (λ h. omega arith)))

  -- each loop around a position is one of the code and ends at or after that position
  Reaches : ℕ → List Loop → Type 0
  Reaches p [] = Unit {0}
  Reaches p (l ∷ ls) = ((o : ℕ) × (loop_at code o ≡ Some l) × (p ≤ l.close)) × Reaches p ls

  reaches : (o p : ℕ) → Reaches p (around_from code o p)
  unfolding Reaches
  reaches zero p = tt
  reaches (suc o) p = one (loop_at code o) refl (reaches o p)
    where
      one : (c : Option Loop) → loop_at code o ≡ c → Reaches p (around_from code o p) → Reaches p (with_loop p c (around_from code o p))
      one None e h = h
      one (Some l) e h = test (nat_le p l.close) refl
        where
          test : (b : Bool) → nat_le p l.close ≡ b → Reaches p (cond b (l ∷ around_from code o p) (around_from code o p))
          test true f = ((o, e, leb-le p l.close f), h)
          test false f = h

  -- if there is no end at p, each loop around p ends after p
  not_there : (p : ℕ) (k : Kind) → kind_at code p ≡ Some k → (k ≡ Closes → ⊥) → (o : ℕ) (l : Loop) → loop_at code o ≡ Some l → l.close ≢ p
  not_there p k at other o l e f =
      let h : Some Closes ≡ Some k = sym (closes_at_end code o l e) ∙ ap (kind_at code) f ∙ at in
      let g : k ≡ Closes = cc in
      other g

  pub around_goes : (p : ℕ) (k : Kind) → kind_at code p ≡ Some k → (k ≡ Closes → ⊥) → around_from code p (suc p) ≡ around code p
  around_goes p k at other = around_agree p (suc p) p (λ n l lt e. same_test (suc p) p l.close (λ h. omega arith) (λ h. let ne : l.close ≢ p = not_there p k at other n l e in omega arith))

  unreached : (p : ℕ) (ls : List Loop) → Reaches p ls → ((o : ℕ) (l : Loop) → loop_at code o ≡ Some l → l.close ≢ p) → reaching (p + 1) ls ≡ ls
  unfolding Reaches
  unreached p [] r no_end = refl
  unreached p (l ∷ ls) r no_end =
      let h = r.0 in
      let le : p ≤ l.close = h.2 in
      let ne : l.close ≢ p = no_end h.0 l h.1 in
      let far : p + 1 ≤ l.close = omega arith in
      ap (λ b. cond b (reaching (p + 1) ls) (l ∷ ls)) (le-ltb l.close (p + 1) far)

  no_loop : (p : ℕ) → ((w : ℕ) → kind_at code p ≢ Some (Opens w)) → loop_at code p ≡ None
  unfolding loop_at
  no_loop p not_open = by (kind_at code p) refl
    where
      by : (c : Option Kind) → kind_at code p ≡ c → loop_by code p c ≡ None
      by (Some (Opens w)) e = absurd (not_open w e)
      by (Some Closes) e = refl
      by (Some Returns) e = refl
      by (Some Acts) e = refl
      by None e = refl

  -- if no loop opens or ends at p, the loops around the next position are the same
  pub stays : (p : ℕ) → ((w : ℕ) → kind_at code p ≢ Some (Opens w)) → kind_at code p ≢ Some Closes → around code (p + 1) ≡ around code p
  stays p not_open not_end =
      let s : p + 1 ≡ suc p = omega arith in
      ap (around code) s
      ∙ ap (λ c. with_loop (suc p) c (around_from code p (suc p))) (no_loop p not_open)
      ∙ around_agree p (suc p) p (λ n l lt e. same_test (suc p) p l.close (λ h. omega arith) (λ h. let ne : l.close ≢ p = λ f. not_end (ap (kind_at code) (sym f) ∙ closes_at_end code n l e) in omega arith))

  pub nests : Matched code → Nests code
  unfolding Made Reaches
  nests matched = record {
    acts = λ p i at is.
        let k : kind_at code p ≡ Some Acts = ap (option_map kind) at ∙ ap Some is in
        stays p (λ w e. cc) (λ e. cc)
        ∙ sym (unreached p (around code p) (reaches p p) (not_there p Acts k (λ e. cc)));
    opens = λ p w i at is.
        let k : kind_at code p ≡ Some (Opens w) = ap (option_map kind) at ∙ ap Some is in
        let m = matched.opens p w k in
        let l = m.0 in
        let d = made code p l m.1 in
        let same : Some (Opens d.0) ≡ Some (Opens w) = sym d.2 ∙ k in
        let count : l.count ≡ w = d.6 ∙ (let e : d.0 ≡ w = cc in e) in
        let s : p + 1 ≡ suc p = omega arith in
        let reach : suc p ≤ l.close = let x = d.5 in omega arith in (
          l,
          m.1,
          count,
          m.2,
          ap (around code) s
              ∙ ap (λ c. with_loop (suc p) c (around_from code p (suc p))) m.1
              ∙ ap (λ b. cond b (l ∷ around_from code p (suc p)) (around_from code p (suc p))) (le-leb (suc p) l.close reach)
              ∙ ap (λ ls. l ∷ ls) (around_goes p (Opens w) k (λ e. cc)),
        );
    closes = λ p i at is.
        let k : kind_at code p ≡ Some Closes = ap (option_map kind) at ∙ ap Some is in
        let m = matched.closes p k in
        let o = m.0 in
        let l = m.1 in
        let d = made code o l m.2 in
        let behind : o < p = let x = d.5 in let y = m.3 in omega arith in
        (l, around_from code o p, around_end o p l m.2 m.3 behind, m.3, around_next o p l m.2 m.3 behind (no_loop p (λ w e. cc)), around_body o p l m.2 m.3 behind d.4);
    inside = λ p i l ls at e other.
        let k : kind_at code p ≡ Some (kind i) = ap (option_map kind) at in
        let r = subst (Reaches p) e (reaches p p) in
        let h = r.0 in
        let le : p ≤ l.close = h.2 in
        let ne : l.close ≢ p = not_there p (kind i) k other h.0 l h.1 in
        omega arith;
  }

-- After a jump forward that enters no loop, the loops around the target are those around the jump that contain the target.
module _ (code : List Instr) (p t : ℕ) (ahead : p < t) (into_none : (o : ℕ) (l : Loop) → IsAround code o l t → IsAround code o l p) where
  below_jump : (o : ℕ) → o ≤ p → around_from code o t ≡ reaching t (around_from code o p)
  below_jump zero le = refl
  below_jump (suc o) le = one (loop_at code o) refl (below_jump o (omega arith))
    where
      one : (c : Option Loop) → loop_at code o ≡ c → around_from code o t ≡ reaching t (around_from code o p) → with_loop t c (around_from code o t) ≡ reaching t (with_loop p c (around_from code o p))
      one None e h = h
      one (Some l) e h = test (nat_le t l.close) refl
        where
          test : (b : Bool) → nat_le t l.close ≡ b → cond b (l ∷ around_from code o t) (around_from code o t) ≡ reaching t (cond (nat_le p l.close) (l ∷ around_from code o p) (around_from code o p))
          test true f =
              let far = leb-le t l.close f in
              let same = around_agree code o t p (λ n k lt g. same_test t p k.close (λ h'. omega arith) (λ h'. let inside = nested code n o k l g e lt (omega arith) in omega arith)) in
              ap (λ ls. l ∷ ls) same
              ∙ sym (ap (λ b. cond b (reaching t (around_from code o p)) (l ∷ around_from code o p)) (le-ltb l.close t far))
              ∙ sym (ap (λ b. reaching t (cond b (l ∷ around_from code o p) (around_from code o p))) (le-leb p l.close (omega arith)))
          test false f =
              let near : l.close < t = leb-false t l.close f in
              h ∙ go (nat_le p l.close)
            where
              go : (b : Bool) → reaching t (around_from code o p) ≡ reaching t (cond b (l ∷ around_from code o p) (around_from code o p))
              go true = sym (ap (λ b. cond b (reaching t (around_from code o p)) (l ∷ around_from code o p)) (lt-ltb l.close t (leb-false t l.close f)))
              go false = refl

  pub around_jump : around code t ≡ reaching t (around code p)
  around_jump =
      let n = t - p in
      let e : t ≡ n + p = omega arith in
      ap (λ k. around_from code k t) e
      ∙ around_skip code n p t (λ o l le lt f. none o l le (omega arith) f (nat_le t l.close) refl)
      ∙ below_jump p (omega arith)
    where
      none : (o : ℕ) (l : Loop) → p ≤ o → o < t → loop_at code o ≡ Some l → (b : Bool) → nat_le t l.close ≡ b → l.close < t
      none o l le lt f true g = let h = into_none o l (record { there = f; after = lt; before = leb-le t l.close g }) in let x = h.after in absurd (omega arith)
      none o l le lt f false g = leb-false t l.close g
