-- The traversal that matches loops.
use Rattle.std.proofs.Common.{◌≡◌, ◌≢◌, ◌⊎◌, inl, inr, ℕ, suc, ◌+◌, ◌-◌, ◌<◌, ◌≤◌, List, [], ◌∷◌, ◌++◌, length, reverse, drop, get_or, Option, Some, None, refl, sym, ◌∙◌, ap, subst, arith}
use Rattle.std.specs.Prelude.{slice_get, option_map}
use Rattle.std.proofs.lemmas.List.{length-reverse, length_push, get_or_push, reverse-append, reverse-reverse}
use Rattle.tl_instr.specs.declared.instr.Instr.{Instr}
use Rattle.tl_instr.specs.declared.instr.Instr.TheVariants.{End}
use Rattle.tl_budget.specs.declared.fault.NestFault.{NestFault}
use Rattle.tl_budget.specs.declared.fault.NestFault.TheVariants.{EndAlone, ZeroCount, TooDeep, LoopOpen, StepsOver, LocksOver, EmitsOver, Memory}
use Rattle.tl_budget.specs.declared.nested.Place.{Place}
use Rattle.tl_budget.specs.Findings.{IsFirstFault}
use Rattle.tl_budget.specs.Loops.{Kind, Opens, Closes, Returns, Acts, kind, kind_at}
use Rattle.tl_budget.specs.Nested.{IsNested, IsNest}
use Rattle.tl_budget.proofs.OpenLoops.{next, opened, opened_next, closes_innermost, Falling, falling}
use Rattle.tl_budget.proofs.AroundLemmas.{nothing_found}
use Rattle.tl_budget.proofs.NothingFound.{Clear, clear_start, clear_next, clear_opens, clear_closes, clear_else, first_zero, first_deep, first_alone, first_unclosed}
use Rattle.tl_budget.proofs.NestLemmas.{Placed, placed_start, placed_push, placed_on, placed_close, marked, is_nest}

-- The traversal has reached p without a fault, and these loops are open, the outermost first.
pub record Walked (code : List Instr) (p : ℕ) (openings : List ℕ) (places : List Place) : Type 0 where
  pub clear : Clear code p
  pub outermost_first : openings ≡ reverse (opened code p)
  pub placed : Placed code p p places

pub walked_start : (code : List Instr) → Walked code 0 [] []
walked_start code = record { clear = clear_start code; outermost_first = refl; placed = placed_start code }

reverse-cons : (o : ℕ) (s : List ℕ) → reverse (o ∷ s) ≡ reverse s ++ o ∷ []
reverse-cons o s = reverse-append (o ∷ []) s

innermost_last : (s : List ℕ) → get_or (reverse s) (length (reverse s) - 1) 0 ≡ get_or s 0 0
innermost_last [] = refl
innermost_last (o ∷ s) =
    let long = length_push (reverse s) o in
    let at : length (reverse s) ≡ length (reverse s ++ o ∷ []) - 1 = omega arith in
    ap (λ (l : List ℕ). get_or l (length l - 1) 0) (reverse-cons o s) ∙ get_or_push (reverse s) o 0 (length (reverse s ++ o ∷ []) - 1) at

as_many : (code : List Instr) (p : ℕ) (openings : List ℕ) (places : List Place) → Walked code p openings places → length openings ≡ length (opened code p)
as_many code p openings places h = ap length h.outermost_first ∙ length-reverse (opened code p)

pub placed_here : (code : List Instr) (p : ℕ) (openings : List ℕ) (places more : List Place) (new : Place) → Walked code p openings places → new.depth ≡ length openings → new.opening ≡ get_or openings (length openings - 1) 0 → new.close ≡ 0 → more ≡ places ++ new ∷ [] → Placed code (p + 1) p more
placed_here code p openings places more new h depth opening close e =
    subst (Placed code (p + 1) p) (sym e) (placed_push code p places new
    (depth ∙ as_many code p openings places h)
    (opening ∙ ap (λ (l : List ℕ). get_or l (length l - 1) 0) h.outermost_first ∙ innermost_last (opened code p))
    close
    h.placed)

-- a loop opens
module _ (code : List Instr) (p w : ℕ) (openings : List ℕ) (places : List Place) (h : Walked code p openings places) (at : kind_at code p ≡ Some (Opens w)) where
  pub walked_in : (inner : List ℕ) (more : List Place) → Placed code (p + 1) p more → 0 < w → length openings < 4 → inner ≡ openings ++ p ∷ [] → Walked code (p + 1) inner more
  walked_in inner more placed turns room e =
      let many = as_many code p openings places h in
      let opens : opened code (p + 1) ≡ p ∷ opened code p = opened_next code p ∙ ap (λ k. next k p (opened code p)) at in
      record {
        clear = clear_next code p h.clear (clear_opens code p w at turns (omega arith));
        outermost_first = e ∙ ap (λ (l : List ℕ). l ++ p ∷ []) h.outermost_first ∙ sym (reverse-cons p (opened code p)) ∙ ap reverse (sym opens);
        placed = placed_on code (p + 1) p more (λ f. cc) placed;
      }

  pub not_in : (f : NestFault) → ((w ≡ 0) × (f ≡ ZeroCount p)) ⊎ ((0 < w) × (4 ≤ length openings) × (f ≡ TooDeep p)) → IsFirstFault code f
  not_in f (inl e) = subst (IsFirstFault code) (sym e.1) (first_zero code p h.clear (at ∙ ap (λ n. Some (Opens n)) e.0))
  not_in f (inr e) =
      let many = as_many code p openings places h in
      let deep : 4 ≤ length (opened code p) = let le = e.1 in omega arith in
      subst (IsFirstFault code) (sym e.2) (first_deep code p w h.clear at e.0 deep)

-- the innermost open loop is the last one of the list
innermost : (s outer : List ℕ) (o : ℕ) → reverse s ≡ outer ++ o ∷ [] → s ≡ o ∷ reverse outer
innermost s outer o e = sym (reverse-reverse s) ∙ ap reverse e ∙ reverse-append outer (o ∷ [])

-- that loop opened before
pub opens_before : (code : List Instr) (p o : ℕ) (openings outer : List ℕ) (places : List Place) → Walked code p openings places → openings ≡ outer ++ o ∷ [] → o < p
opens_before code p o openings outer places h e =
    let top : opened code p ≡ o ∷ reverse outer = innermost (opened code p) outer o (sym h.outermost_first ∙ e) in
    (subst (Falling p) top (falling code p)).0

-- the innermost loop ends
module _ (code : List Instr) (p : ℕ) (openings : List ℕ) (places : List Place) (h : Walked code p openings places) (at : kind_at code p ≡ Some Closes) where
  pub walked_out : (o : ℕ) (outer : List ℕ) (more left : List Place) → Placed code (p + 1) p more → openings ≡ outer ++ o ∷ [] → left ≡ marked more o p → Walked code (p + 1) outer left
  walked_out o outer more left placed e marks =
      let top : opened code p ≡ o ∷ reverse outer = innermost (opened code p) outer o (sym h.outermost_first ∙ e) in
      let rest : opened code (p + 1) ≡ reverse outer = opened_next code p ∙ ap (λ k. next k p (opened code p)) at ∙ ap (drop 1) top in
      let some : length (opened code p) ≡ suc (length (reverse outer)) = ap length top in
      record {
        clear = clear_next code p h.clear (clear_closes code p at (omega arith));
        outermost_first = sym (reverse-reverse outer) ∙ ap reverse (sym rest);
        placed = subst (Placed code (p + 1) (p + 1)) (sym marks) (placed_close code (p + 1) p o more (closes_innermost code p o (reverse outer) at top) (omega arith) placed);
      }

  pub not_out : (f : NestFault) → (openings ≡ []) × (f ≡ EndAlone p) → IsFirstFault code f
  not_out f e =
      let many = as_many code p openings places h in
      let none : length (opened code p) ≡ 0 = let empty = ap length e.0 in omega arith in
      subst (IsFirstFault code) (sym e.1) (first_alone code p h.clear at none)

-- an instruction other than an end closes no loop
no_end : (i : Instr) → i ≢ End → kind i ≢ Closes
no_end End not_end = absurd (not_end refl)
no_end i not_end = λ e. cc

pub neither : (code : List Instr) (p : ℕ) (i : Instr) → slice_get code p ≡ Some i → ((w : ℕ) → kind i ≢ Opens w) → i ≢ End → ((w : ℕ) → kind_at code p ≢ Some (Opens w)) × (kind_at code p ≢ Some Closes)
neither code p i at not_open not_end =
    let is : kind_at code p ≡ Some (kind i) = ap (option_map kind) at in
    (λ w e. not_open w cc, λ e. no_end i not_end cc)

pub walked_on : (code : List Instr) (p : ℕ) (openings : List ℕ) (places more : List Place) → Walked code p openings places → Placed code (p + 1) p more → ((w : ℕ) → kind_at code p ≢ Some (Opens w)) → kind_at code p ≢ Some Closes → Walked code (p + 1) openings more
walked_on code p openings places more h placed not_open not_end =
    record {
      clear = clear_next code p h.clear (clear_else code p not_open not_end);
      outermost_first = h.outermost_first ∙ ap reverse (sym (opened_next code p ∙ by (kind_at code p) refl));
      placed = placed_on code (p + 1) p more not_end placed;
    }
  where
    by : (k : Option Kind) → kind_at code p ≡ k → next k p (opened code p) ≡ opened code p
    by (Some (Opens w)) e = absurd (not_open w e)
    by (Some Closes) e = absurd (not_end e)
    by (Some Returns) e = refl
    by (Some Acts) e = refl
    by None e = refl

-- at the end of the code
pub walked_through : (code : List Instr) (p : ℕ) (openings : List ℕ) (places : List Place) → p ≡ length code → slice_get openings 0 ≡ None → Walked code p openings places → IsNest code places
walked_through code p (o ∷ openings) places e empty h = cc
walked_through code p [] places e empty h =
    let none : opened code p ≡ [] = sym (reverse-reverse (opened code p)) ∙ ap reverse (sym h.outermost_first) in
    is_nest code places (subst (Clear code) e h.clear) (subst (λ n. opened code n ≡ []) e none) (subst (λ n. Placed code n n places) e h.placed)

pub left_open : (code : List Instr) (p o : ℕ) (openings : List ℕ) (places : List Place) → p ≡ length code → Walked code p openings places → slice_get openings 0 ≡ Some o → IsFirstFault code (LoopOpen o)
left_open code p o [] places e h first = cc
left_open code p o (q ∷ rest) places e h first =
    let same : q ≡ o = cc in
    let outermost : opened code p ≡ reverse rest ++ o ∷ [] =
    sym (reverse-reverse (opened code p))
    ∙ ap reverse (sym h.outermost_first)
    ∙ reverse-cons q rest
    ∙ ap (λ n. reverse rest ++ n ∷ []) same in
    first_unclosed code o (reverse rest) (subst (Clear code) e h.clear) (subst (λ n. opened code n ≡ reverse rest ++ o ∷ []) e outermost)

-- a nested code has no fault but lack of memory
pub only_memory : (code : List Instr) (f : NestFault) → (f ≢ Memory → IsFirstFault code f) → IsNested code → f ≡ Memory
only_memory code Memory first nested = refl
only_memory code (LoopOpen p) first nested = let h = first (λ e. cc) in absurd (nothing_found code nested h.finding h.arises)
only_memory code (EndAlone p) first nested = let h = first (λ e. cc) in absurd (nothing_found code nested h.finding h.arises)
only_memory code (TooDeep p) first nested = let h = first (λ e. cc) in absurd (nothing_found code nested h.finding h.arises)
only_memory code (ZeroCount p) first nested = let h = first (λ e. cc) in absurd (nothing_found code nested h.finding h.arises)
only_memory code StepsOver first nested = let h = first (λ e. cc) in absurd (nothing_found code nested h.finding h.arises)
only_memory code LocksOver first nested = let h = first (λ e. cc) in absurd (nothing_found code nested h.finding h.arises)
only_memory code EmitsOver first nested = let h = first (λ e. cc) in absurd (nothing_found code nested h.finding h.arises)
