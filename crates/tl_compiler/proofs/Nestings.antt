-- Codes that are built from their end, and whose loops match, have positive counts and don't nest too deep.
use Rattle.std.proofs.Common.{◌≡◌, ◌⊎◌, inl, inr, ℕ, zero, suc, ◌+◌, ◌<◌, ◌≤◌, List, [], ◌∷◌, ◌++◌, length, map, take, Option, Some, None, refl, sym, ◌∙◌, ap, subst, arith, append_assoc}
use Rattle.std.specs.Prelude.{slice_get, option_map}
use Rattle.tl_instr.specs.declared.instr.Instr.{Instr}
use Rattle.tl_instr.specs.declared.instr.Instr.TheVariants as I
use Rattle.tl_budget.specs.Loops.{Kind, Opens, Closes, Returns, Acts, kind, kind_at}
use Rattle.tl_budget.specs.Findings.{Alone, Zero, Deep, Unclosed, open_after, open_behind, open_at}
use Rattle.tl_budget.specs.Nested.{IsNested}
use Rattle.tl_budget.proofs.OpenLoops.{opened, open_count}
use Rattle.tl_budget.proofs.NothingFound.{Clear, is_nested}
use Rattle.tl_compiler.specs.Aiming.{aimed}
use Rattle.tl_compiler.proofs.Stretches.{Stretch, stretch_whole, stretch_further, stretch_acts, stretch_returns, stretch_loop, same_kind}

-- an instruction that doesn't open or end a loop
abbrev pub IsStraight : Instr → Type 0
IsStraight i = (kind i ≡ Acts) ⊎ (kind i ≡ Returns)

pub data Nests : ℕ → List Instr → List Instr → Type 0 where
  here : {d : ℕ} {k : List Instr} → Nests d k k
  one : {d : ℕ} {i : Instr} {c k : List Instr} → IsStraight i → Nests d c k → Nests d (i ∷ c) k
  turn : {d w : ℕ} {i : Instr} {body j k : List Instr} → kind i ≡ Opens w → 0 < w → Nests d body (I.End ∷ j) → Nests (suc d) j k → Nests (suc d) (i ∷ body) k

pub nests_further : {d : ℕ} {c k j : List Instr} → Nests d c k → Nests d k j → Nests d c j
nests_further here m = m
nests_further (one s n) m = one s (nests_further n m)
nests_further (turn e w body n) m = turn e w body (nests_further n m)

pub nests_more : {d : ℕ} (e : ℕ) {c k : List Instr} → d ≤ e → Nests d c k → Nests e c k
nests_more e le here = here
nests_more e le (one s n) = one s (nests_more e le n)
nests_more zero le (turn o w body n) = absurd (omega arith)
nests_more (suc e) le (turn o w body n) = turn o w (nests_more e (omega arith) body) (nests_more (suc e) le n)

pub nests_stretch : {d : ℕ} {c k : List Instr} → Nests d c k → Stretch c k
nests_stretch {d} {c} {k} here = stretch_whole k
nests_stretch (one {i = i} {c = c} (inl acts) n) = stretch_further (stretch_acts i c acts) (nests_stretch n)
nests_stretch (one {i = i} {c = c} (inr returns) n) = stretch_further (returning i c returns) (nests_stretch n)
  where
    returning : (i : Instr) (c : List Instr) → kind i ≡ Returns → Stretch (i ∷ c) c
    returning I.Return c e = stretch_returns c
    returning i c e = cc
nests_stretch (turn {w = w} {i = i} {body = body} {j = j} e turns inside n) = stretch_further (stretch_loop i w body j e (nests_stretch inside)) (nests_stretch n)

-- ---- the same with positions in the place of labels

straight_aimed : (n : ℕ) (i : Instr) → IsStraight i → IsStraight (aimed n i)
straight_aimed n i (inl e) = inl (same_kind n i ∙ e)
straight_aimed n i (inr e) = inr (same_kind n i ∙ e)

pub nests_aimed : {d : ℕ} (n : ℕ) {c k : List Instr} → Nests d c k → Nests d (map (aimed n) c) (map (aimed n) k)
nests_aimed n here = here
nests_aimed n (one {i = i} s m) = one (straight_aimed n i s) (nests_aimed n m)
nests_aimed n (turn {i = i} e w body m) = turn (same_kind n i ∙ e) w (nests_aimed n body) (nests_aimed n m)

-- ---- how many loops are open

-- the instructions of c in front of k
pub record Fronts (c k : List Instr) : Type 0 where
  pub front : List Instr
  pub joined : c ≡ front ++ k

abbrev pub front_of : {d : ℕ} {c k : List Instr} → Nests d c k → List Instr
front_of here = []
front_of (one {i = i} s n) = i ∷ front_of n
front_of (turn {i = i} e w body n) = i ∷ (front_of body ++ I.End ∷ front_of n)

pub joined_of : {d : ℕ} {c k : List Instr} (n : Nests d c k) → c ≡ front_of n ++ k
joined_of here = refl
joined_of (one {i = i} s n) = ap (λ l. i ∷ l) (joined_of n)
joined_of {k = k} (turn {i = i} {j = j} e w body n) =
    ap (λ l. i ∷ l)
    (joined_of body ∙ ap (λ l. front_of body ++ I.End ∷ l) (joined_of n) ∙ sym (append_assoc (front_of body) (I.End ∷ front_of n) k))

behind_joined : (a b : List Instr) (e : ℕ) → open_behind (a ++ b) e ≡ open_behind b (open_behind a e)
behind_joined [] b e = refl
behind_joined (i ∷ a) b e = behind_joined a b (open_after (kind i) e)

straight_open : (i : Instr) → IsStraight i → (e : ℕ) → open_after (kind i) e ≡ e
straight_open i (inl s) e = ap (λ k. open_after k e) s
straight_open i (inr s) e = ap (λ k. open_after k e) s

-- as many loops are open after them as before
pub as_many_open : {d : ℕ} {c k : List Instr} (n : Nests d c k) (e : ℕ) → open_behind (front_of n) e ≡ e
as_many_open here e = refl
as_many_open (one {i = i} s n) e = ap (open_behind (front_of n)) (straight_open i s e) ∙ as_many_open n e
as_many_open (turn {w = w} {i = i} o turns body n) e =
    ap (λ k. open_behind (front_of body ++ I.End ∷ front_of n) (open_after k e)) o
    ∙ behind_joined (front_of body) (I.End ∷ front_of n) (suc e)
    ∙ ap (open_behind (I.End ∷ front_of n)) (as_many_open body (suc e))
    ∙ as_many_open n e

-- what is true of each instruction of a list that begins with e loops open, where d more may open
pub record IsFine (d e o : ℕ) (i : Instr) : Type 0 where
  pub opens : (w : ℕ) → kind i ≡ Opens w → (0 < w) × (o < e + d)
  pub ends : kind i ≡ Closes → e < o

abbrev pub AllFine : ℕ → ℕ → ℕ → List Instr → Type 0
AllFine d e o [] = Unit {0}
AllFine d e o (i ∷ is) = IsFine d e o i × AllFine d e (open_after (kind i) o) is

all_joined : (d e o : ℕ) (a b : List Instr) → AllFine d e o a → AllFine d e (open_behind a o) b → AllFine d e o (a ++ b)
all_joined d e o [] b x y = y
all_joined d e o (i ∷ a) b x y = (x.0, all_joined d e (open_after (kind i) o) a b x.1 y)

-- with one more loop around
outer_fine : (d e o : ℕ) (is : List Instr) → AllFine d (suc e) o is → AllFine (suc d) e o is
outer_fine d e o [] x = tt
outer_fine d e o (i ∷ is) x =
    let f = x.0 in
    (record { opens = λ w s. let h = f.opens w s in (h.0, let lt = h.1 in omega arith); ends = λ s. let lt = f.ends s in omega arith }, outer_fine d e (open_after (kind i) o) is x.1)

straight_fine : (d e o : ℕ) (i : Instr) → IsStraight i → IsFine d e o i
straight_fine d e o i (inl s) = record { opens = λ w h. cc; ends = λ h. cc }
straight_fine d e o i (inr s) = record { opens = λ w h. cc; ends = λ h. cc }

pub all_fine : {d : ℕ} {c k : List Instr} (n : Nests d c k) (e : ℕ) → AllFine d e e (front_of n)
all_fine here e = tt
all_fine {d} (one {i = i} s n) e = (straight_fine d e e i s, subst (λ o. AllFine d e o (front_of n)) (sym (straight_open i s e)) (all_fine n e))
all_fine (turn {d = d} {w = w} {i = i} o turns body n) e = (
  record { opens = λ v h. let same : w ≡ v = cc in (subst (λ x. 0 < x) same turns, omega arith); ends = λ h. cc },
  subst (λ k. AllFine (suc d) e (open_after k e) (front_of body ++ I.End ∷ front_of n)) (sym o)
      (all_joined (suc d) e (suc e) (front_of body) (I.End ∷ front_of n) (outer_fine d e (suc e) (front_of body) (all_fine body (suc e)))
      (subst (λ q. AllFine (suc d) e q (I.End ∷ front_of n)) (sym (as_many_open body (suc e)))
      (record { opens = λ v h. cc; ends = λ h. omega arith }, all_fine n e))),
)

-- at each position
fine_at : (d e o : ℕ) (is : List Instr) → AllFine d e o is → (p : ℕ) (i : Instr) → slice_get is p ≡ Some i → IsFine d e (open_behind (take p is) o) i
fine_at d e o [] x p i at = cc
fine_at d e o (j ∷ is) x zero i at = let same : j ≡ i = cc in subst (IsFine d e o) same x.0
fine_at d e o (j ∷ is) x (suc p) i at = fine_at d e (open_after (kind j) o) is x.1 p i at

from_kind : (o : Option Instr) (k : Kind) → option_map kind o ≡ Some k → (i : Instr) × (o ≡ Some i) × (kind i ≡ k)
from_kind None k e = cc
from_kind (Some i) k e = let h : kind i ≡ k = cc in (i, refl, h)

append_nil_of : (c front : List Instr) → c ≡ front ++ [] → front ≡ c
append_nil_of c front e = nothing front ∙ sym e
  where
    nothing : (l : List Instr) → l ≡ l ++ []
    nothing [] = refl
    nothing (i ∷ l) = ap (λ x. i ∷ x) (nothing l)

no_length : (s : List ℕ) → length s ≡ 0 → s ≡ []
no_length [] e = refl
no_length (x ∷ s) e = absurd (omega (arith, e))

module _ (c : List Instr) (n : Nests 4 c []) where
  whole : front_of n ≡ c
  whole = append_nil_of c (front_of n) (joined_of n)

  fine : (p : ℕ) (k : Kind) → kind_at c p ≡ Some k → (i : Instr) × (kind i ≡ k) × IsFine 4 0 (open_at c p) i
  fine p k at =
      let i = from_kind (slice_get c p) k at in
      (i.0, i.2, fine_at 4 0 0 c (subst (AllFine 4 0 0) whole (all_fine n 0)) p i.0 i.1)

  clear : Clear c (length c)
  clear (Alone p) e lt a = let f = fine p Closes a.0 in let less = (f.2).ends f.1 in let none = a.1 in absurd (omega arith)
  clear (Zero p) e lt a = let f = fine p (Opens 0) a in let less = ((f.2).opens 0 f.1).0 in absurd (omega arith)
  clear (Deep p) e lt a = let f = fine p (Opens a.0) a.1 in let less = ((f.2).opens a.0 f.1).1 in let deep = a.2 in absurd (omega arith)
  clear (Unclosed p) e lt a = absurd (omega arith)

  take_all : (l : List Instr) → take (length l) l ≡ l
  take_all [] = refl
  take_all (i ∷ l) = ap (λ x. i ∷ x) (take_all l)

  none_open : opened c (length c) ≡ []
  none_open =
      no_length (opened c (length c))
      (sym (open_count c (length c)) ∙ ap (λ l. open_behind l 0) (take_all c) ∙ ap (λ l. open_behind l 0) (sym whole) ∙ as_many_open n 0)

  pub nests_nested : IsNested c
  nests_nested = is_nested c clear none_open
