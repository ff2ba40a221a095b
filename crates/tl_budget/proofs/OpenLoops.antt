-- The loops that are open at a position.
use Rattle.std.proofs.Common.{◌≡◌, ◌⊎◌, inl, inr, ℕ, zero, suc, ◌+◌, ◌<◌, ◌≤◌, List, [], ◌∷◌, length, take, drop, Option, Some, None, refl, sym, ◌∙◌, ap, subst, arith}
use Rattle.std.specs.Prelude.{option_map}
use Rattle.std.proofs.lemmas.List.{drop_all}
use Rattle.std.proofs.lemmas.Bool.{cases_lt}
use Rattle.tl_instr.specs.declared.instr.Instr.{Instr}
use Rattle.tl_budget.specs.Loops.{Kind, Opens, Closes, Returns, Acts, kind, kind_at, closing, closing_by, Loop, loop_at, loop_by}
use Rattle.tl_budget.specs.Findings.{open_after, open_behind, open_at}

-- the openings of the loops that are open after p, given those at p, the innermost first
abbrev pub next : Option Kind → ℕ → List ℕ → List ℕ
next (Some (Opens w)) p s = p ∷ s
next (Some Closes) p s = drop 1 s
next (Some Returns) p s = s
next (Some Acts) p s = s
next None p s = s

-- the openings of the loops that are open at p, the innermost first
abbrev pub opened : List Instr → ℕ → List ℕ
opened code zero = []
opened code (suc p) = next (kind_at code p) p (opened code p)

pub opened_next : (code : List Instr) (p : ℕ) → opened code (p + 1) ≡ next (kind_at code p) p (opened code p)
opened_next code p = let e : p + 1 ≡ suc p = omega arith in ap (opened code) e

-- the number of open loops after an instruction
abbrev count_next : Option Kind → ℕ → ℕ
count_next (Some k) d = open_after k d
count_next None d = d

open_behind_next : (code : List Instr) (p d : ℕ) → open_behind (take (suc p) code) d ≡ count_next (kind_at code p) (open_behind (take p code) d)
open_behind_next [] zero d = refl
open_behind_next [] (suc p) d = refl
open_behind_next (i ∷ is) zero d = refl
open_behind_next (i ∷ is) (suc p) d = open_behind_next is p (open_after (kind i) d)

length-next : (k : Option Kind) (p : ℕ) (s : List ℕ) → length (next k p s) ≡ count_next k (length s)
length-next (Some (Opens w)) p s = refl
length-next (Some Closes) p [] = refl
length-next (Some Closes) p (o ∷ s) = refl
length-next (Some Returns) p s = refl
length-next (Some Acts) p s = refl
length-next None p s = refl

pub open_count : (code : List Instr) (p : ℕ) → open_at code p ≡ length (opened code p)
open_count code zero = refl
open_count code (suc p) =
    open_behind_next code p 0
    ∙ ap (count_next (kind_at code p)) (open_count code p)
    ∙ sym (length-next (kind_at code p) p (opened code p))

-- the openings are below p, each lower than the one before it
abbrev pub Falling : ℕ → List ℕ → Type 0
Falling p [] = Unit {0}
Falling p (o ∷ s) = (o < p) × Falling o s

falling_le : (p q : ℕ) (s : List ℕ) → p ≤ q → Falling p s → Falling q s
falling_le p q [] le h = tt
falling_le p q (o ∷ s) le h = (let lt = h.0 in omega arith, h.1)

pub falling : (code : List Instr) (p : ℕ) → Falling p (opened code p)
falling code zero = tt
falling code (suc p) = by (kind_at code p) (opened code p) (falling code p)
  where
    by : (k : Option Kind) (s : List ℕ) → Falling p s → Falling (suc p) (next k p s)
    by (Some (Opens w)) s h = (omega arith, h)
    by (Some Closes) [] h = tt
    by (Some Closes) (o ∷ s) h = falling_le o (suc p) s (let lt = h.0 in omega arith) h.1
    by (Some Returns) s h = falling_le p (suc p) s (omega arith) h
    by (Some Acts) s h = falling_le p (suc p) s (omega arith) h
    by None s h = falling_le p (suc p) s (omega arith) h

-- searching a loop's end from p, by the instruction at p
closing_at : (code : List Instr) (p : ℕ) (k : Kind) → kind_at code p ≡ Some k → (d : ℕ) → closing (drop p code) d ≡ closing_by k (closing (drop (suc p) code)) d
closing_at [] p k e d = cc
closing_at (i ∷ is) zero k e d = let same : kind i ≡ k = cc in ap (λ c. closing_by c (closing is) d) same
closing_at (i ∷ is) (suc p) k e d = closing_at is p k e d

closing_past : (code : List Instr) (p : ℕ) → kind_at code p ≡ None → (d : ℕ) → closing (drop p code) d ≡ None
closing_past [] zero e d = refl
closing_past [] (suc p) e d = refl
closing_past (i ∷ is) zero e d = cc
closing_past (i ∷ is) (suc p) e d = closing_past is p e d

-- The loop that opens at o is open at p, with d other open loops inside it: the same end closes it from either position.
Stands : List Instr → ℕ → ℕ → ℕ → Type 0
Stands code p d o = (w n : ℕ) × (kind_at code o ≡ Some (Opens w)) × (o + 1 + n ≡ p) × (closing (drop (o + 1) code) 0 ≡ option_map (λ k. n + k) (closing (drop p code) d))

AllStand : List Instr → ℕ → ℕ → List ℕ → Type 0
AllStand code p d [] = Unit {0}
AllStand code p d (o ∷ s) = Stands code p d o × AllStand code p (suc d) s

none_on : (c : Option ℕ) → c ≡ option_map (λ k. 0 + k) c
none_on None = refl
none_on (Some k) = let e : k ≡ 0 + k = omega arith in ap Some e

shift : (n : ℕ) (c : Option ℕ) → option_map (λ k. n + k) (option_map suc c) ≡ option_map (λ k. suc n + k) c
shift n None = refl
shift n (Some k) = let e : n + suc k ≡ suc n + k = omega arith in ap Some e

stands_next : (code : List Instr) (p d e o : ℕ) → closing (drop p code) d ≡ option_map suc (closing (drop (suc p) code) e) → Stands code p d o → Stands code (suc p) e o
unfolding Stands
stands_next code p d e o c h =
    let there : o + 1 + suc h.1 ≡ suc p = let x = h.3 in omega arith in
    (h.0, suc h.1, h.2, there, h.4 ∙ ap (option_map (λ k. h.1 + k)) c ∙ shift h.1 (closing (drop (suc p) code) e))

-- the same one instruction further, where the number of loops inside each changes in the same way
all_next : (code : List Instr) (p : ℕ) (Becomes : ℕ → ℕ → Type 0) → ((d e : ℕ) → Becomes d e → Becomes (suc d) (suc e)) → ((d e : ℕ) → Becomes d e → closing (drop p code) d ≡ option_map suc (closing (drop (suc p) code) e)) → (s : List ℕ) (d e : ℕ) → Becomes d e → AllStand code p d s → AllStand code (suc p) e s
unfolding AllStand
all_next code p Becomes up c [] d e b h = tt
all_next code p Becomes up c (o ∷ s) d e b h = (stands_next code p d e o (c d e b) h.0, all_next code p Becomes up c s (suc d) (suc e) (up d e b) h.1)

stays : (code : List Instr) (p : ℕ) → ((d : ℕ) → closing (drop p code) d ≡ option_map suc (closing (drop (suc p) code) d)) → (s : List ℕ) → AllStand code p 0 s → AllStand code (suc p) 0 s
stays code p c s h = all_next code p (λ d e. d ≡ e) (λ d e. ap suc) (λ d e same. c d ∙ ap (λ n. option_map suc (closing (drop (suc p) code) n)) same) s 0 0 refl h

none_past : (code : List Instr) (p : ℕ) → kind_at code p ≡ None → (d : ℕ) → closing (drop p code) d ≡ option_map suc (closing (drop (suc p) code) d)
none_past code p e d = closing_past code p e d ∙ sym (ap (option_map suc) (closing_past code (suc p) (past code p e) d))
  where
    past : (code : List Instr) (p : ℕ) → kind_at code p ≡ None → kind_at code (suc p) ≡ None
    past [] p e = refl
    past (i ∷ is) zero e = cc
    past (i ∷ is) (suc p) e = past is p e

stand : (code : List Instr) (p : ℕ) → AllStand code p 0 (opened code p)
unfolding Stands AllStand
stand code zero = tt
stand code (suc p) = by (kind_at code p) refl (opened code p) (stand code p)
  where
    by : (k : Option Kind) → kind_at code p ≡ k → (s : List ℕ) → AllStand code p 0 s → AllStand code (suc p) 0 (next k p s)
    by (Some (Opens w)) e s h =
        let there : p + 1 + 0 ≡ suc p = omega arith in
        let at : p + 1 ≡ suc p = omega arith in
        let same = ap (λ n. closing (drop n code) 0) at ∙ none_on (closing (drop (suc p) code) 0) in
        ((w, 0, e, there, same), all_next code p (λ d e. suc d ≡ e) (λ d e. ap suc) (λ d f same. closing_at code p (Opens w) e d ∙ ap (λ n. option_map suc (closing (drop (suc p) code) n)) same) s 0 1 refl h)
    by (Some Closes) e [] h = tt
    by (Some Closes) e (o ∷ s) h = all_next code p (λ d e. d ≡ suc e) (λ d e. ap suc) (λ d f same. ap (closing (drop p code)) same ∙ closing_at code p Closes e (suc f)) s 1 0 refl h.1
    by (Some Returns) e s h = stays code p (closing_at code p Returns e) s h
    by (Some Acts) e s h = stays code p (closing_at code p Acts e) s h
    by None e s h = stays code p (none_past code p e) s h

-- the loop that opens at o closes at p
abbrev pub ClosesAt : List Instr → ℕ → ℕ → Type 0
ClosesAt code o p = (l : Loop) × (loop_at code o ≡ Some l) × (l.close ≡ p)

-- an end closes the innermost open loop
pub closes_innermost : (code : List Instr) (p o : ℕ) (s : List ℕ) → kind_at code p ≡ Some Closes → opened code p ≡ o ∷ s → ClosesAt code o p
unfolding Stands AllStand loop_at
closes_innermost code p o s e is =
    let h = (subst (AllStand code p 0) is (stand code p)).0 in
    let m : Loop = record { opening = o; close = o + 1 + (h.1 + 0); count = h.0 } in
    let c : closing (drop (o + 1) code) 0 ≡ Some (h.1 + 0) = h.4 ∙ ap (option_map (λ k. h.1 + k)) (closing_at code p Closes e 0) in
    let at : loop_at code o ≡ Some m = ap (loop_by code o) h.2 ∙ ap (option_map (λ k. let l : Loop = record { opening = o; close = o + 1 + k; count = h.0 } in l)) c in
    let there : m.close ≡ p = let x = h.3 in omega arith in
    (m, at, there)

-- o is an element of the list
abbrev pub In : ℕ → List ℕ → Type 0
In o [] = ⊥
In o (q ∷ s) = (o ≡ q) ⊎ In o s

standing_opens : (code : List Instr) (p d o : ℕ) (s : List ℕ) → AllStand code p d s → In o s → (w : ℕ) × (kind_at code o ≡ Some (Opens w))
unfolding Stands AllStand
standing_opens code p d o [] h i = absurd i
standing_opens code p d o (q ∷ s) h (inl e) = (h.0.0, ap (kind_at code) e ∙ h.0.2)
standing_opens code p d o (q ∷ s) h (inr i) = standing_opens code p (suc d) o s h.1 i

-- each open loop has an opening instruction
pub opens_there : (code : List Instr) (p o : ℕ) → In o (opened code p) → (w : ℕ) × (kind_at code o ≡ Some (Opens w))
opens_there code p o i = standing_opens code p 0 o (opened code p) (stand code p) i

-- a loop that opens before p is open at p, or closes before p
abbrev pub OpenOrClosed : List Instr → ℕ → ℕ → Type 0
OpenOrClosed code p o = In o (opened code p) ⊎ ((l : Loop) × (loop_at code o ≡ Some l) × (l.close < p))

still : (code : List Instr) (p o : ℕ) (k : Option Kind) (s : List ℕ) → kind_at code p ≡ k → opened code p ≡ s → In o s → In o (next k p s) ⊎ ((l : Loop) × (loop_at code o ≡ Some l) × (l.close < suc p))
still code p o (Some (Opens w)) s e is i = inl (inr i)
still code p o (Some Closes) [] e is i = absurd i
still code p o (Some Closes) (q ∷ s) e is (inl same) =
    let c = closes_innermost code p q s e is in
    inr (c.0, ap (loop_at code) same ∙ c.1, let x = c.2 in omega arith)
still code p o (Some Closes) (q ∷ s) e is (inr i) = inl i
still code p o (Some Returns) s e is i = inl i
still code p o (Some Acts) s e is i = inl i
still code p o None s e is i = inl i

pub open_or_closed : (code : List Instr) (p o w : ℕ) → o < p → kind_at code o ≡ Some (Opens w) → OpenOrClosed code p o
open_or_closed code zero o w lt at = absurd (omega arith)
open_or_closed code (suc p) o w lt at = by (cases_lt o p) (λ below. open_or_closed code p o w below at)
  where
    later : OpenOrClosed code p o → OpenOrClosed code (suc p) o
    later (inl i) = still code p o (kind_at code p) (opened code p) refl refl i
    later (inr h) = inr (h.0, h.1, let x = h.2 in omega arith)

    by : (o < p) ⊎ (p ≤ o) → (o < p → OpenOrClosed code p o) → OpenOrClosed code (suc p) o
    by (inl below) before = later (before below)
    by (inr le) before =
        let same : o ≡ p = omega arith in
        let here : kind_at code p ≡ Some (Opens w) = ap (kind_at code) (sym same) ∙ at in
        inl (subst (λ k. In o (next k p (opened code p))) (sym here) (inl same))

-- a loop that is open after the end of the code has no end
never_closed : (code : List Instr) (p d : ℕ) → length code ≤ p → (o : ℕ) (s : List ℕ) → AllStand code p d s → In o s → loop_at code o ≡ None
unfolding Stands AllStand loop_at
never_closed code p d le o [] h i = absurd i
never_closed code p d le o (q ∷ s) h (inl e) =
    let here = h.0 in
    let none : closing (drop (q + 1) code) 0 ≡ None = here.4 ∙ ap (λ is. option_map (λ k. here.1 + k) (closing is d)) (drop_all p code le) in
    ap (loop_at code) e ∙ ap (loop_by code q) here.2 ∙ ap (option_map (λ k. let l : Loop = record { opening = q; close = q + 1 + k; count = here.0 } in l)) none
never_closed code p d le o (q ∷ s) h (inr i) = never_closed code p (suc d) le o s h.1 i

pub unclosed : (code : List Instr) (p o : ℕ) → length code ≤ p → In o (opened code p) → loop_at code o ≡ None
unclosed code p o le i = never_closed code p 0 le o (opened code p) (stand code p) i
