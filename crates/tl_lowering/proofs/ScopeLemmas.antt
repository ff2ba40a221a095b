-- Names that are declared and later lose their meanings.
use Rattle.std.proofs.Common.{◌≡◌, ◌≢◌, ℕ, zero, suc, ◌+◌, ◌<◌, ◌≤◌, List, [], ◌∷◌, ◌++◌, length, length-append, take, drop, ◌⊎◌, inl, inr, refl, sym, ap, ap₂, ◌∙◌, arith, subst}
use Rattle.std.specs.Prelude.{slice_set, get_or, map, replicate, Option, Bool, true, false, nat_lt, if◌then◌else◌}
use Rattle.std.proofs.lemmas.List.{drop-append-le, take-append-le, length-take, length-set, get_or-set_same, get_or-set_other, get_or_past}
use Rattle.std.proofs.lemmas.Bool.{cases_eq, cases_lt}
use Rattle.tl_syntax.specs.declared.token.Symbol.{Symbol}
use Rattle.tl_instr.specs.declared.operand.Field.{Field}
use Rattle.tl_lowering.specs.declared.scope.Meaning.{Meaning}
use Rattle.tl_lowering.specs.declared.scope.Meaning.TheVariants as M
use Rattle.tl_lowering.specs.Names.{Names, constant_only, field_before, inside}
use Rattle.tl_lowering.specs.Scopes.{View, IsBelow, AreInUse, Extends, forget}

pub forget_last : (symbols : List Symbol) (s : Symbol) (ms : List Meaning) → forget (symbols ++ s ∷ []) ms ≡ forget symbols (slice_set ms s.0 M.Nothing)
forget_last [] s ms = refl
forget_last (x ∷ symbols) s ms = ap (λ z. slice_set z x.0 M.Nothing) (forget_last symbols s ms)

set_back : (ms : List Meaning) (n : ℕ) (m : Meaning) → get_or ms n M.Nothing ≡ M.Nothing → slice_set (slice_set ms n m) n M.Nothing ≡ ms
set_back [] n m e = refl
set_back (x ∷ ms) zero m e = ap (λ y. y ∷ ms) (sym e)
set_back (x ∷ ms) (suc n) m e = ap (λ z. x ∷ z) (set_back ms n m e)

front_fits : (k : ℕ) (xs ys : List Symbol) → length ys ≡ k → take k xs ≡ ys → k ≤ length xs
front_fits k xs ys e f = let h = length-take k xs in let g = ap length f in omega arith

pub declares : (outer old new : View) (s : Symbol) (m : Meaning) → get_or old.meanings s.0 M.Nothing ≡ M.Nothing → Extends outer old
    → new.local ≡ old.local ++ s ∷ [] → new.meanings ≡ slice_set old.meanings s.0 m → new.fields ≡ old.fields → new.procedures ≡ old.procedures
    → Extends outer new
declares outer old new s m fresh e local meanings fields procedures =
    let k : ℕ = length outer.local in
    let fits : k ≤ length old.local = front_fits k old.local outer.local refl e.local in
    record {
      meanings =
          ap₂ (λ l ms. forget (drop k l) ms) local meanings
          ∙ ap (λ l. forget l (slice_set old.meanings s.0 m)) (drop-append-le k old.local (s ∷ []) fits)
          ∙ forget_last (drop k old.local) s (slice_set old.meanings s.0 m)
          ∙ ap (forget (drop k old.local)) (set_back old.meanings s.0 m fresh)
          ∙ e.meanings;
      local = ap (take k) local ∙ take-append-le k old.local (s ∷ []) fits ∙ e.local;
      fields = fields ∙ e.fields;
      procedures = procedures ∙ e.procedures;
    }

below : (k : ℕ) (new : List Symbol) (s : Symbol) → k < length (new ++ s ∷ []) → k ≤ length new
below k new s lt = omega (arith, length-append new (s ∷ []))

-- the last of more than k names loses its meaning
pub pops_meanings : (k : ℕ) (old new : List Symbol) (s : Symbol) (ms after : List Meaning) → old ≡ new ++ s ∷ [] → k < length old → after ≡ slice_set ms s.0 M.Nothing
    → forget (drop k new) after ≡ forget (drop k old) ms
pops_meanings k old new s ms after e lt is =
    let fits : k ≤ length new = below k new s (subst (λ l. k < length l) e lt) in
    sym (ap (λ l. forget (drop k l) ms) e ∙ ap (λ l. forget l ms) (drop-append-le k new (s ∷ []) fits) ∙ forget_last (drop k new) s ms ∙ ap (forget (drop k new)) (sym is))

pub pops_local : (k : ℕ) (old new : List Symbol) (s : Symbol) → old ≡ new ++ s ∷ [] → k < length old → take k new ≡ take k old
pops_local k old new s e lt = sym (ap (take k) e ∙ take-append-le k new (s ∷ []) (below k new s (subst (λ l. k < length l) e lt)))

-- ---- names in use

more_below : (t u m k : ℕ) (x : Meaning) → t ≤ u → m ≤ k → IsBelow t m x → IsBelow u k x
more_below t u m k M.Nothing a b h = tt
more_below t u m k (M.Constant w i) a b h = tt
more_below t u m k (M.Value x) a b h = omega arith
more_below t u m k (M.Index x) a b h = omega arith
more_below t u m k (M.Node n) a b h = omega arith

-- a name gets a meaning that isn't another name's node
set_in_use : (t u m k : ℕ) (ms : List Meaning) (s : ℕ) (x : Meaning) → t ≤ u → m ≤ k → IsBelow u k x → ((n i : ℕ) → x ≡ M.Node n → get_or ms i M.Nothing ≡ M.Node n → ⊥) → AreInUse t m ms
    → AreInUse u k (slice_set ms s x)
set_in_use t u m k ms s x a b below new h = record {
  below = λ i. at i (cases_eq i s) (cases_lt s (length ms));
  apart = λ i j n e f. two i j n (cases_eq i s) (cases_eq j s) e f;
}
  where
    at : (i : ℕ) → (i ≡ s) ⊎ (i ≢ s) → (s < length ms) ⊎ (length ms ≤ s) → IsBelow u k (get_or (slice_set ms s x) i M.Nothing)
    at i (inl e) (inl lt) = rw e (rw (get_or-set_same ms s x M.Nothing lt) below)
    at i (inl e) (inr le) = rw (get_or_past (slice_set ms s x) i M.Nothing (omega (arith, length-set ms s x))) tt
    at i (inr ne) c = rw (get_or-set_other ms s i x M.Nothing ne) (more_below t u m k (get_or ms i M.Nothing) a b (h.below i))

    old : (i n : ℕ) → i ≢ s → get_or (slice_set ms s x) i M.Nothing ≡ M.Node n → get_or ms i M.Nothing ≡ M.Node n
    old i n ne e = sym (get_or-set_other ms s i x M.Nothing ne) ∙ e

    is_x : (i n : ℕ) → i ≡ s → get_or (slice_set ms s x) i M.Nothing ≡ M.Node n → x ≡ M.Node n
    is_x i n e f = by (cases_lt s (length ms))
      where
        by : (s < length ms) ⊎ (length ms ≤ s) → x ≡ M.Node n
        by (inl lt) = sym (get_or-set_same ms s x M.Nothing lt) ∙ ap (λ z. get_or (slice_set ms s x) z M.Nothing) (sym e) ∙ f
        by (inr le) = let g : M.Nothing ≡ M.Node n = sym (get_or_past (slice_set ms s x) i M.Nothing (omega (arith, length-set ms s x))) ∙ f in cc

    two : (i j n : ℕ) → (i ≡ s) ⊎ (i ≢ s) → (j ≡ s) ⊎ (j ≢ s) → get_or (slice_set ms s x) i M.Nothing ≡ M.Node n → get_or (slice_set ms s x) j M.Nothing ≡ M.Node n → i ≡ j
    two i j n (inl a) (inl b) e f = a ∙ sym b
    two i j n (inl a) (inr b) e f = absurd (new n j (is_x i n a e) (old j n b f))
    two i j n (inr a) (inl b) e f = absurd (new n i (is_x j n b f) (old i n a e))
    two i j n (inr a) (inr b) e f = h.apart i j n (old i n a e) (old j n b f)

pub constant_in_use : (t m : ℕ) (ms : List Meaning) (s : ℕ) (w : _) (i : ℕ) → AreInUse t m ms → AreInUse t m (slice_set ms s (M.Constant w i))
constant_in_use t m ms s w k h = set_in_use t t m m ms s (M.Constant w k) (omega arith) (omega arith) tt (λ n i e f. cc) h

pub value_in_use : (t m : ℕ) (ms : List Meaning) (s x : ℕ) → x ≡ t → AreInUse t m ms → AreInUse (t + 1) m (slice_set ms s (M.Value x))
value_in_use t m ms s x e h = set_in_use t (t + 1) m m ms s (M.Value x) (omega arith) (omega arith) (omega arith) (λ n i e f. cc) h

-- a value of another name gets a name
pub variable_in_use : (t m : ℕ) (ms : List Meaning) (s x : ℕ) → x < t → AreInUse t m ms → AreInUse t m (slice_set ms s (M.Value x))
variable_in_use t m ms s x lt h = set_in_use t t m m ms s (M.Value x) (omega arith) (omega arith) lt (λ n i e f. cc) h

pub index_in_use : (t m : ℕ) (ms : List Meaning) (s x : ℕ) → x ≡ t → AreInUse t m ms → AreInUse (t + 1) m (slice_set ms s (M.Index x))
index_in_use t m ms s x e h = set_in_use t (t + 1) m m ms s (M.Index x) (omega arith) (omega arith) (omega arith) (λ n i e f. cc) h

pub node_in_use : (t m : ℕ) (ms : List Meaning) (s x : ℕ) → x ≡ m → AreInUse t m ms → AreInUse t (m + 1) (slice_set ms s (M.Node x))
node_in_use t m ms s x w h =
    set_in_use t t m (m + 1) ms s (M.Node x) (omega arith) (omega arith) (omega arith)
    (λ n i e f. let same : x ≡ n = cc in let lt : n < m = subst (IsBelow t m) f (h.below i) in absurd (omega arith)) h

-- a node of another name gets a name
pub alias_in_use : (t m : ℕ) (ms : List Meaning) (s x : ℕ) → x < m → ((i : ℕ) → get_or ms i M.Nothing ≢ M.Node x) → AreInUse t m ms → AreInUse t m (slice_set ms s (M.Node x))
alias_in_use t m ms s x lt free h =
    set_in_use t t m m ms s (M.Node x) (omega arith) (omega arith) lt (λ n i e f. let same : x ≡ n = cc in absurd (free i (f ∙ ap M.Node (sym same)))) h

-- of names that stand for nodes or values none is known in a part
pub inside_in_use : (k t m i : ℕ) (ms : List Meaning) → IsBelow t m (get_or (map (constant_only k) ms) i M.Nothing)
inside_in_use k t m i [] = tt
inside_in_use k t m zero (M.Nothing ∷ ms) = tt
inside_in_use k t m zero (M.Constant w i ∷ ms) = by (nat_lt i k)
  where
    by : (b : Bool) → IsBelow t m (if b then M.Constant w i else M.Nothing)
    by true = tt
    by false = tt
inside_in_use k t m zero (M.Value x ∷ ms) = tt
inside_in_use k t m zero (M.Index x ∷ ms) = tt
inside_in_use k t m zero (M.Node n ∷ ms) = tt
inside_in_use k t m (suc i) (x ∷ ms) = inside_in_use k t m i ms

pub inside_no_node : (k n i : ℕ) (ms : List Meaning) → get_or (map (constant_only k) ms) i M.Nothing ≢ M.Node n
inside_no_node k n i [] e = cc
inside_no_node k n zero (M.Nothing ∷ ms) e = cc
inside_no_node k n zero (M.Constant w i ∷ ms) e = by (nat_lt i k) e
  where
    by : (b : Bool) → (if b then M.Constant w i else M.Nothing) ≡ M.Node n → ⊥
    by true f = cc
    by false f = cc
inside_no_node k n zero (M.Value x ∷ ms) e = cc
inside_no_node k n zero (M.Index x ∷ ms) e = cc
inside_no_node k n zero (M.Node j ∷ ms) e = cc
inside_no_node k n (suc i) (x ∷ ms) e = inside_no_node k n i ms e

pub are_inside : (k t m : ℕ) (ms ns : List Meaning) → ns ≡ map (constant_only k) ms → AreInUse t m ns
are_inside k t m ms ns e =
    subst (AreInUse t m) (sym e) (record { below = λ i. inside_in_use k t m i ms; apart = λ i j n f g. absurd (inside_no_node k n i ms f) })

pub inside_names : (k : ℕ) (names : Names) (ms : List Meaning) (fs : List (Option (Field × ℕ))) (ps : List (Option ℕ)) → ms ≡ map (constant_only k) names.meanings → fs ≡ map (field_before k) names.fields
    → ps ≡ names.procedures → record { meanings = ms; fields = fs; procedures = ps; values = names.values; nodes = names.nodes; loops = 0 } ≡ inside k names
inside_names k names ms fs ps e f g = rw (e, f, g) refl

nothing_in : (n i : ℕ) → get_or (replicate n M.Nothing) i M.Nothing ≡ M.Nothing
nothing_in zero i = refl
nothing_in (suc n) zero = refl
nothing_in (suc n) (suc i) = nothing_in n i

no_node : (n : ℕ) → M.Nothing ≡ M.Node n → ⊥
no_node n e = cc

-- names without a meaning
pub none_in_use : (ms : List Meaning) (n : ℕ) → ms ≡ replicate n M.Nothing → AreInUse 0 0 ms
none_in_use ms n e =
    subst (AreInUse 0 0) (sym e) (record { below = λ i. subst (IsBelow 0 0) (sym (nothing_in n i)) tt; apart = λ i j k f g. absurd (no_node k (sym (nothing_in n i) ∙ f)) })

pub same_numbers : (t m u k : ℕ) (ms ns : List Meaning) → AreInUse t m ms → u ≡ t → k ≡ m → ns ≡ ms → AreInUse u k ns
same_numbers t m u k ms ns h e f g = rw (e, f, g) h
