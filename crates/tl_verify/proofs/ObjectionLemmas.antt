-- The objection at a position is the first fault there.
use Rattle.std.proofs.Common.{◌≡◌, ℕ, zero, suc, ◌+◌, ◌<◌, List, [], ◌∷◌, length, Option, Some, None, Bool, true, false, refl, sym, ap, ◌∙◌, arith, subst}
use Rattle.std.specs.Prelude.{slice_get, get_or, ◌&&◌, not, nat_le}
use Rattle.std.proofs.lemmas.Bool.{leb-true, leb-false}
use Rattle.tl_instr.specs.declared.instr.Instr.{Instr}
use Rattle.tl_verify.specs.declared.marks.Marks.{Marks}
use Rattle.tl_verify.specs.declared.arrivals.Arrivals.{Arrivals}
use Rattle.tl_verify.specs.Marks.{is_held, source, destination, is_first, is_return, goes_on, furthest}
use Rattle.tl_verify.specs.Ways.{Way}
use Rattle.tl_verify.specs.Findings.{Finding, OfLoops, TargetBack, TargetPastEnd, TargetInLoop, Joined, Spent, Missing, Taken, LeftHeld, Changed, NextPastEnd, Steps, Locks, Emits, Arises, Meets, pass, position, rank}
use Rattle.tl_verify.specs.Known.{Gathers, IsFirstAt}
use Rattle.tl_verify.specs.Pass.{or_else, when, missing, taken, first_held, left_held, objection}
use Rattle.tl_verify.proofs.LoopFindings.{loops_first}

and_true : (a b : Bool) → (a && b) ≡ true → (a ≡ true) × (b ≡ true)
and_true true true e = (refl, refl)
and_true true false e = cc
and_true false b e = cc

pub both_true : (a b : Bool) → (a && b) ≡ false → a ≡ true → b ≡ true → ⊥
both_true true true e f g = cc
both_true true false e f g = cc
both_true false b e f g = cc

not_true : (b : Bool) → not b ≡ true → b ≡ false
not_true false e = refl
not_true true e = cc

not_false : (b : Bool) → b ≡ false → not b ≡ true
not_false false e = refl
not_false true e = cc

-- the lowest register that holds a node
pub first_held_is : (bs : List Bool) (k n : ℕ) → first_held bs k ≡ Some n → (j : ℕ) × (n ≡ k + j) × (get_or bs j false ≡ true) × ((l : ℕ) → l < j → get_or bs l false ≡ false)
first_held_is [] k n e = cc
first_held_is (true ∷ bs) k n e = (0, let h : k ≡ n = cc in omega arith, refl, λ l lt. absurd (omega arith))
first_held_is (false ∷ bs) k n e =
    let h = first_held_is bs (suc k) n e in
    (suc h.0, let g = h.1 in omega arith, h.2, λ l lt. below h.0 l lt h.3)
  where
    below : (j l : ℕ) → l < suc j → ((l : ℕ) → l < j → get_or bs l false ≡ false) → get_or (false ∷ bs) l false ≡ false
    below j zero lt f = refl
    below j (suc l) lt f = f l (omega arith)

pub first_held_none : (bs : List Bool) (k : ℕ) → first_held bs k ≡ None → (l : ℕ) → get_or bs l false ≡ false
first_held_none [] k e l = refl
first_held_none (true ∷ bs) k e l = cc
first_held_none (false ∷ bs) k e zero = refl
first_held_none (false ∷ bs) k e (suc l) = first_held_none bs (suc k) e l

missing_is : (p : ℕ) (m : Marks) (o : Option ℕ) (f : Finding) → missing p m o ≡ Some f → (n : ℕ) × (o ≡ Some n) × (is_held m n ≡ false) × (f ≡ Missing p n)
missing_is p m None f e = cc
missing_is p m (Some n) f e = cases (is_held m n) refl e
  where
    cases : (b : Bool) → is_held m n ≡ b → when (not b) (Missing p n) ≡ Some f → (k : ℕ) × (Some n ≡ Some k) × (is_held m k ≡ false) × (f ≡ Missing p k)
    cases true g e = cc
    cases false g e = let same : Missing p n ≡ f = cc in (n, refl, g, sym same)

taken_is : (p : ℕ) (m : Marks) (o : Option ℕ) (f : Finding) → taken p m o ≡ Some f → (n : ℕ) × (o ≡ Some n) × (is_held m n ≡ true) × (f ≡ Taken p n)
taken_is p m None f e = cc
taken_is p m (Some n) f e = cases (is_held m n) refl e
  where
    cases : (b : Bool) → is_held m n ≡ b → when b (Taken p n) ≡ Some f → (k : ℕ) × (Some n ≡ Some k) × (is_held m k ≡ true) × (f ≡ Taken p k)
    cases false g e = cc
    cases true g e = let same : Taken p n ≡ f = cc in (n, refl, g, sym same)

left_held_is : (p : ℕ) (b : Bool) (o : Option ℕ) (f : Finding) → left_held p b o ≡ Some f → (n : ℕ) × (b ≡ true) × (o ≡ Some n) × (f ≡ LeftHeld p n)
left_held_is p true None f e = cc
left_held_is p true (Some n) f e = let same : LeftHeld p n ≡ f = cc in (n, refl, refl, sym same)
left_held_is p false o f e = cc

left_held_none : (p : ℕ) (b : Bool) (o : Option ℕ) → left_held p b o ≡ None → b ≡ true → o ≡ None
left_held_none p true None e f = refl
left_held_none p true (Some n) e f = cc
left_held_none p false o e f = cc

module _ (code : List Instr) (p : ℕ) (i : Instr) (at : slice_get code p ≡ Some i) (a : Arrivals) (gathers : Gathers (Way code p) a)
    (changed : Bool) (changes : changed ≡ true → Arises code (Changed p)) (keeps : changed ≡ false → a.differ ≡ false → Arises code (Changed p) → ⊥) where
  same_instr : (j : Instr) (m : Marks) → Meets code p j m → j ≡ i
  same_instr j m x = let h : Some j ≡ Some i = sym x.at ∙ at in cc

  -- ---- where a test passes, its finding does not arise

  clear_joined : a.differ ≡ false → Arises code (Joined p) → ⊥
  clear_joined alike (j, m, k, x, y, ne) = ne (gathers.alike alike m x.way ∙ sym (gathers.alike alike k y.way))

  clear_spent : (is_first i && not a.marks.is_open) ≡ false → Arises code (Spent p) → ⊥
  clear_spent e (j, m, x, first, spent) = cases a.marks.is_open refl
    where
      cases : (b : Bool) → a.marks.is_open ≡ b → ⊥
      cases true o = let h = gathers.is_open o m x.way in cc
      cases false o = both_true (is_first i) (not a.marks.is_open) e (ap is_first (sym (same_instr j m x)) ∙ first) (not_false a.marks.is_open o)

  held_as : a.differ ≡ false → (m : Marks) → Way code p m → (n : ℕ) → is_held a.marks n ≡ is_held m n
  held_as alike m way n = ap (λ hs. get_or hs n false) (sym (gathers.alike alike m way))

  clear_missing : a.differ ≡ false → missing p a.marks (source i) ≡ None → (n : ℕ) → Arises code (Missing p n) → ⊥
  clear_missing alike e n (j, m, x, from, empty) =
      let here : source i ≡ Some n = ap source (sym (same_instr j m x)) ∙ from in
      let not_held : is_held a.marks n ≡ false = held_as alike m x.way n ∙ empty in
      let h : Some (Missing p n) ≡ None = sym (ap (λ b. when (not b) (Missing p n)) not_held) ∙ sym (ap (missing p a.marks) here) ∙ e in
      cc

  clear_taken : a.differ ≡ false → taken p a.marks (destination i) ≡ None → (n : ℕ) → Arises code (Taken p n) → ⊥
  clear_taken alike e n (j, m, x, to, full) =
      let here : destination i ≡ Some n = ap destination (sym (same_instr j m x)) ∙ to in
      let held : is_held a.marks n ≡ true = held_as alike m x.way n ∙ full in
      let h : Some (Taken p n) ≡ None = sym (ap (λ b. when b (Taken p n)) held) ∙ sym (ap (taken p a.marks) here) ∙ e in
      cc

  clear_left_held : a.differ ≡ false → left_held p (is_return i) (first_held a.marks.held 0) ≡ None → (n : ℕ) → Arises code (LeftHeld p n) → ⊥
  clear_left_held alike e n (j, m, x, returns, full, least) =
      let none = left_held_none p (is_return i) (first_held a.marks.held 0) e (ap is_return (sym (same_instr j m x)) ∙ returns) in
      let empty = first_held_none a.marks.held 0 none n in
      let held : is_held a.marks n ≡ true = held_as alike m x.way n ∙ full in
      cc

  clear_next : (goes_on i && nat_le (length code) (furthest code p i + 1)) ≡ false → Arises code (NextPastEnd p) → ⊥
  clear_next e (j, m, x, goes, past) = both_true (goes_on i) (nat_le (length code) (furthest code p i + 1)) e (ap goes_on (sym (same_instr j m x)) ∙ goes) (at_most (nat_le (length code) (furthest code p i + 1)) refl)
    where
      at_most : (b : Bool) → nat_le (length code) (furthest code p i + 1) ≡ b → nat_le (length code) (furthest code p i + 1) ≡ true
      at_most true f = f
      at_most false f = let h = leb-false (length code) (furthest code p i + 1) f in let same = ap (furthest code p) (same_instr j m x) in absurd (omega arith)

  -- ---- the tests that passed so far

  pub record Passed (r : ℕ) : Type 0 where
    pub joined : 0 < r → a.differ ≡ false
    pub spent : 1 < r → (is_first i && not a.marks.is_open) ≡ false
    pub missing_none : 2 < r → missing p a.marks (source i) ≡ None
    pub taken_none : 3 < r → taken p a.marks (destination i) ≡ None
    pub left_held_none' : 4 < r → left_held p (is_return i) (first_held a.marks.held 0) ≡ None
    pub same : 5 < r → changed ≡ false
    pub next : 6 < r → (goes_on i && nat_le (length code) (furthest code p i + 1)) ≡ false

  below : (r : ℕ) → Passed r → (g : Finding) → pass g ≡ 3 → position g ≡ p → rank g < r → Arises code g → ⊥
  below r t (OfLoops q) e f lt x = let h = loops_first q in absurd (omega arith)
  below r t (TargetBack q) e f lt x = absurd (omega arith)
  below r t (TargetPastEnd q) e f lt x = absurd (omega arith)
  below r t (TargetInLoop q) e f lt x = absurd (omega arith)
  below r t (Joined q) e f lt x = clear_joined (t.joined lt) (subst (λ q. Arises code (Joined q)) f x)
  below r t (Spent q) e f lt x = clear_spent (t.spent lt) (subst (λ q. Arises code (Spent q)) f x)
  below r t (Missing q n) e f lt x = clear_missing (t.joined (omega arith)) (t.missing_none lt) n (subst (λ q. Arises code (Missing q n)) f x)
  below r t (Taken q n) e f lt x = clear_taken (t.joined (omega arith)) (t.taken_none lt) n (subst (λ q. Arises code (Taken q n)) f x)
  below r t (LeftHeld q n) e f lt x = clear_left_held (t.joined (omega arith)) (t.left_held_none' lt) n (subst (λ q. Arises code (LeftHeld q n)) f x)
  below r t (Changed q) e f lt x = keeps (t.same lt) (t.joined (omega arith)) (subst (λ q. Arises code (Changed q)) f x)
  below r t (NextPastEnd q) e f lt x = clear_next (t.next lt) (subst (λ q. Arises code (NextPastEnd q)) f x)
  below r t Steps e f lt x = absurd (omega arith)
  below r t Locks e f lt x = absurd (omega arith)
  below r t Emits e f lt x = absurd (omega arith)

  -- ---- where a test fails, its finding arises, and is the first

  some_way : (m : Marks) × Way code p m × (m.held ≡ a.marks.held)
  some_way = gathers.some

  meets : Meets code p i some_way.0
  meets = record { at = at; way = some_way.1 }

  found_joined : a.differ ≡ true → IsFirstAt code p (Joined p)
  found_joined e =
      let x = gathers.differs e in
      record {
        arises = (i, x.0, x.1, record { at = at; way = x.2 }, record { at = at; way = x.3 }, x.4);
        pass_is = refl;
        position_is = refl;
        first = λ g b c lt h. absurd (omega arith);
      }

  found_spent : Passed 1 → (is_first i && not a.marks.is_open) ≡ true → IsFirstAt code p (Spent p)
  found_spent t e =
      let both = and_true (is_first i) (not a.marks.is_open) e in
      let x = gathers.spent (not_true a.marks.is_open both.1) in
      record {
        arises = (i, x.0, record { at = at; way = x.1 }, both.0, x.2);
        pass_is = refl;
        position_is = refl;
        first = below 1 t;
      }

  found_missing : Passed 2 → (f : Finding) → missing p a.marks (source i) ≡ Some f → IsFirstAt code p f
  found_missing t f e =
      let x = missing_is p a.marks (source i) f e in
      rw x.3 (record {
        arises = (i, some_way.0, meets, x.1, ap (λ hs. get_or hs x.0 false) some_way.2 ∙ x.2);
        pass_is = refl;
        position_is = refl;
        first = below 2 t;
      })

  found_taken : Passed 3 → (f : Finding) → taken p a.marks (destination i) ≡ Some f → IsFirstAt code p f
  found_taken t f e =
      let x = taken_is p a.marks (destination i) f e in
      rw x.3 (record {
        arises = (i, some_way.0, meets, x.1, ap (λ hs. get_or hs x.0 false) some_way.2 ∙ x.2);
        pass_is = refl;
        position_is = refl;
        first = below 3 t;
      })

  found_left_held : Passed 4 → (f : Finding) → left_held p (is_return i) (first_held a.marks.held 0) ≡ Some f → IsFirstAt code p f
  found_left_held t f e =
      let x = left_held_is p (is_return i) (first_held a.marks.held 0) f e in
      let y = first_held_is a.marks.held 0 x.0 x.2 in
      let same : x.0 ≡ y.0 = let h = y.1 in omega arith in
      let as_here : (n : ℕ) → is_held some_way.0 n ≡ is_held a.marks n = λ n. ap (λ hs. get_or hs n false) some_way.2 in
      rw x.3 (record {
        arises = (i, some_way.0, meets, x.1, as_here x.0 ∙ ap (is_held a.marks) same ∙ y.2, λ k lt. as_here k ∙ y.3 k (omega arith));
        pass_is = refl;
        position_is = refl;
        first = below 4 t;
      })

  found_changed : Passed 5 → changed ≡ true → IsFirstAt code p (Changed p)
  found_changed t e = record { arises = changes e; pass_is = refl; position_is = refl; first = below 5 t }

  found_next : Passed 6 → (goes_on i && nat_le (length code) (furthest code p i + 1)) ≡ true → IsFirstAt code p (NextPastEnd p)
  found_next t e =
      let both = and_true (goes_on i) (nat_le (length code) (furthest code p i + 1)) e in
      record {
        arises = (i, some_way.0, meets, both.0, leb-true (length code) (furthest code p i + 1) both.1);
        pass_is = refl;
        position_is = refl;
        first = below 6 t;
      }

  -- ---- all tests, one after another

  chain : (d s c n : Bool) (m t l : Option Finding)
      → a.differ ≡ d → (is_first i && not a.marks.is_open) ≡ s → missing p a.marks (source i) ≡ m → taken p a.marks (destination i) ≡ t
      → left_held p (is_return i) (first_held a.marks.held 0) ≡ l → changed ≡ c → (goes_on i && nat_le (length code) (furthest code p i + 1)) ≡ n
      → (f : Finding) → or_else (when d (Joined p)) (or_else (when s (Spent p)) (or_else m (or_else t (or_else l (or_else (when c (Changed p)) (when n (NextPastEnd p))))))) ≡ Some f → IsFirstAt code p f
  chain true s c n m t l e0 e1 e2 e3 e4 e5 e6 f e = let same : Joined p ≡ f = cc in subst (IsFirstAt code p) same (found_joined e0)
  chain false true c n m t l e0 e1 e2 e3 e4 e5 e6 f e =
      let same : Spent p ≡ f = cc in
      subst (IsFirstAt code p) same (found_spent (record { joined = λ lt. e0; spent = λ lt. absurd (omega arith); missing_none = λ lt. absurd (omega arith); taken_none = λ lt. absurd (omega arith); left_held_none' = λ lt. absurd (omega arith); same = λ lt. absurd (omega arith); next = λ lt. absurd (omega arith) }) e1)
  chain false false c n (Some g) t l e0 e1 e2 e3 e4 e5 e6 f e =
      let same : g ≡ f = cc in
      found_missing (record { joined = λ lt. e0; spent = λ lt. e1; missing_none = λ lt. absurd (omega arith); taken_none = λ lt. absurd (omega arith); left_held_none' = λ lt. absurd (omega arith); same = λ lt. absurd (omega arith); next = λ lt. absurd (omega arith) }) f (e2 ∙ ap Some same)
  chain false false c n None (Some g) l e0 e1 e2 e3 e4 e5 e6 f e =
      let same : g ≡ f = cc in
      found_taken (record { joined = λ lt. e0; spent = λ lt. e1; missing_none = λ lt. e2; taken_none = λ lt. absurd (omega arith); left_held_none' = λ lt. absurd (omega arith); same = λ lt. absurd (omega arith); next = λ lt. absurd (omega arith) }) f (e3 ∙ ap Some same)
  chain false false c n None None (Some g) e0 e1 e2 e3 e4 e5 e6 f e =
      let same : g ≡ f = cc in
      found_left_held (record { joined = λ lt. e0; spent = λ lt. e1; missing_none = λ lt. e2; taken_none = λ lt. e3; left_held_none' = λ lt. absurd (omega arith); same = λ lt. absurd (omega arith); next = λ lt. absurd (omega arith) }) f (e4 ∙ ap Some same)
  chain false false true n None None None e0 e1 e2 e3 e4 e5 e6 f e =
      let same : Changed p ≡ f = cc in
      subst (IsFirstAt code p) same (found_changed (record { joined = λ lt. e0; spent = λ lt. e1; missing_none = λ lt. e2; taken_none = λ lt. e3; left_held_none' = λ lt. e4; same = λ lt. absurd (omega arith); next = λ lt. absurd (omega arith) }) e5)
  chain false false false true None None None e0 e1 e2 e3 e4 e5 e6 f e =
      let same : NextPastEnd p ≡ f = cc in
      subst (IsFirstAt code p) same (found_next (record { joined = λ lt. e0; spent = λ lt. e1; missing_none = λ lt. e2; taken_none = λ lt. e3; left_held_none' = λ lt. e4; same = λ lt. e5; next = λ lt. absurd (omega arith) }) e6)
  chain false false false false None None None e0 e1 e2 e3 e4 e5 e6 f e = cc

  -- the objection is a fault, and no fault at the position precedes it
  pub finds : (f : Finding) → objection (length code) (furthest code p i) p i a changed ≡ Some f → IsFirstAt code p f
  unfolding objection
  finds f e = chain a.differ (is_first i && not a.marks.is_open) changed (goes_on i && nat_le (length code) (furthest code p i + 1)) (missing p a.marks (source i)) (taken p a.marks (destination i)) (left_held p (is_return i) (first_held a.marks.held 0)) refl refl refl refl refl refl refl f e

  all_passed : (d s c n : Bool) (m t l : Option Finding)
      → a.differ ≡ d → (is_first i && not a.marks.is_open) ≡ s → missing p a.marks (source i) ≡ m → taken p a.marks (destination i) ≡ t
      → left_held p (is_return i) (first_held a.marks.held 0) ≡ l → changed ≡ c → (goes_on i && nat_le (length code) (furthest code p i + 1)) ≡ n
      → or_else (when d (Joined p)) (or_else (when s (Spent p)) (or_else m (or_else t (or_else l (or_else (when c (Changed p)) (when n (NextPastEnd p))))))) ≡ None → Passed 7
  all_passed true s c n m t l e0 e1 e2 e3 e4 e5 e6 e = cc
  all_passed false true c n m t l e0 e1 e2 e3 e4 e5 e6 e = cc
  all_passed false false c n (Some g) t l e0 e1 e2 e3 e4 e5 e6 e = cc
  all_passed false false c n None (Some g) l e0 e1 e2 e3 e4 e5 e6 e = cc
  all_passed false false c n None None (Some g) e0 e1 e2 e3 e4 e5 e6 e = cc
  all_passed false false true n None None None e0 e1 e2 e3 e4 e5 e6 e = cc
  all_passed false false false true None None None e0 e1 e2 e3 e4 e5 e6 e = cc
  all_passed false false false false None None None e0 e1 e2 e3 e4 e5 e6 e = record { joined = λ lt. e0; spent = λ lt. e1; missing_none = λ lt. e2; taken_none = λ lt. e3; left_held_none' = λ lt. e4; same = λ lt. e5; next = λ lt. e6 }

  pub passed : objection (length code) (furthest code p i) p i a changed ≡ None → Passed 7
  unfolding objection
  passed e = all_passed a.differ (is_first i && not a.marks.is_open) changed (goes_on i && nat_le (length code) (furthest code p i + 1)) (missing p a.marks (source i)) (taken p a.marks (destination i)) (left_held p (is_return i) (first_held a.marks.held 0)) refl refl refl refl refl refl refl e

  -- if there is no objection, there is no fault at the position
  pub clear : objection (length code) (furthest code p i) p i a changed ≡ None → (g : Finding) → pass g ≡ 3 → position g ≡ p → Arises code g → ⊥
  clear e g is there x = below 7 (passed e) g is there (ranks g is) x
    where
      ranks : (g : Finding) → pass g ≡ 3 → rank g < 7
      ranks (OfLoops q) e = let h = loops_first q in absurd (omega arith)
      ranks (TargetBack q) e = absurd (omega arith)
      ranks (TargetPastEnd q) e = absurd (omega arith)
      ranks (TargetInLoop q) e = absurd (omega arith)
      ranks (Joined q) e = omega arith
      ranks (Spent q) e = omega arith
      ranks (Missing q n) e = omega arith
      ranks (Taken q n) e = omega arith
      ranks (LeftHeld q n) e = omega arith
      ranks (Changed q) e = omega arith
      ranks (NextPastEnd q) e = omega arith
      ranks Steps e = omega arith
      ranks Locks e = omega arith
      ranks Emits e = omega arith
