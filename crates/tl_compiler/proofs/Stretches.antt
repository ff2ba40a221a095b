-- Parts of a code in which each loop that opens also ends.
use Rattle.std.proofs.Common.{◌≡◌, ℕ, zero, suc, ◌+◌, ◌-◌, List, [], ◌∷◌, ◌++◌, length, map, drop, Option, Some, None, option_map, refl, sym, ap, ◌∙◌, arith, append_assoc}
use Rattle.std.specs.Prelude.{slice_get}
use Rattle.std.proofs.lemmas.List.{length-append, length-map, drop_at, map-append}
use Rattle.tl_instr.specs.declared.instr.Instr.{Instr}
use Rattle.tl_instr.specs.declared.instr.Instr.TheVariants as I
use Rattle.tl_budget.specs.Loops.{Kind, Opens, Closes, Returns, Acts, kind, closing_by, closing, Loop, loop_by, loop_at}
use Rattle.tl_compiler.specs.Aiming.{aimed, at_positions}
use Rattle.tl_compiler.specs.Tails.{Tail}
use Rattle.tl_compiler.proofs.TailLemmas.{fetch, tail_length}

-- the second list is an end of the first, and each loop that opens before it also closes before it
pub record Stretch (whole end : List Instr) : Type 0 where
  pub front : List Instr
  pub joined : whole ≡ front ++ end
  pub closes : (rest : List Instr) (d : ℕ) → closing (front ++ rest) d ≡ option_map (λ n. length front + n) (closing rest d)

pub tail_of_stretch : {c k : List Instr} → Stretch c k → Tail c k
tail_of_stretch t = record { front = t.front; joined = t.joined }

same_option : (o : Option ℕ) → o ≡ option_map (λ n. 0 + n) o
same_option None = refl
same_option (Some n) = ap Some (omega arith)

pub stretch_whole : (k : List Instr) → Stretch k k
stretch_whole k = record { front = []; joined = refl; closes = λ rest d. same_option (closing rest d) }

twice : (a b m : ℕ) → m ≡ a + b → (o : Option ℕ) → option_map (λ n. a + n) (option_map (λ n. b + n) o) ≡ option_map (λ n. m + n) o
twice a b m e None = refl
twice a b m e (Some n) = ap Some (omega (arith, e))

pub stretch_further : {c k j : List Instr} → Stretch c k → Stretch k j → Stretch c j
stretch_further {c} {k} {j} t u = record {
  front = t.front ++ u.front;
  joined = t.joined ∙ ap (λ l. t.front ++ l) u.joined ∙ sym (append_assoc t.front u.front j);
  closes = λ rest d.
      ap (λ l. closing l d) (append_assoc t.front u.front rest)
      ∙ t.closes (u.front ++ rest) d
      ∙ ap (option_map (λ n. length t.front + n)) (u.closes rest d)
      ∙ twice (length t.front) (length u.front) (length (t.front ++ u.front)) (length-append t.front u.front) (closing rest d);
}

next_one : (o : Option ℕ) → option_map suc o ≡ option_map (λ n. suc zero + n) o
next_one None = refl
next_one (Some n) = ap Some (omega arith)

-- an instruction that doesn't open or close a loop
pub stretch_acts : (i : Instr) (k : List Instr) → kind i ≡ Acts → Stretch (i ∷ k) k
stretch_acts i k e = record {
  front = i ∷ [];
  joined = refl;
  closes = λ rest d. ap (λ t. closing_by t (closing rest) d) e ∙ next_one (closing rest d);
}

pub stretch_returns : (k : List Instr) → Stretch (I.Return ∷ k) k
stretch_returns k = record { front = I.Return ∷ []; joined = refl; closes = λ rest d. next_one (closing rest d) }

loop_length : (b m : ℕ) → m ≡ suc (b + suc zero) → (o : Option ℕ) → option_map suc (option_map (λ n. b + n) (option_map suc o)) ≡ option_map (λ n. m + n) o
loop_length b m e None = refl
loop_length b m e (Some n) = ap Some (omega (arith, e))

-- a loop
pub stretch_loop : (i : Instr) (w : ℕ) (body k : List Instr) → kind i ≡ Opens w → Stretch body (I.End ∷ k) → Stretch (i ∷ body) k
stretch_loop i w body k e t = record {
  front = i ∷ (t.front ++ I.End ∷ []);
  joined = ap (λ l. i ∷ l) (t.joined ∙ sym (append_assoc t.front (I.End ∷ []) k));
  closes = λ rest d.
      ap (λ q. closing_by q (closing ((t.front ++ I.End ∷ []) ++ rest)) d) e
      ∙ ap (λ l. option_map suc (closing l (suc d))) (append_assoc t.front (I.End ∷ []) rest)
      ∙ ap (option_map suc) (t.closes (I.End ∷ rest) (suc d))
      ∙ loop_length (length t.front) (suc (length (t.front ++ I.End ∷ []))) (ap suc (length-append t.front (I.End ∷ []))) (closing rest d);
}

-- ---- the end of a loop in the code that runs

pub same_kind : (n : ℕ) (i : Instr) → kind (aimed n i) ≡ kind i
same_kind n (I.Set to number) = refl
same_kind n (I.Copy to from) = refl
same_kind n (I.Add to left right otherwise) = refl
same_kind n (I.Subtract to left right otherwise) = refl
same_kind n (I.Multiply to left right otherwise) = refl
same_kind n (I.Divide to left right otherwise) = refl
same_kind n (I.Jump to) = refl
same_kind n (I.JumpIfLess left right to) = refl
same_kind n (I.JumpIfEqual left right to) = refl
same_kind n (I.Repeat count) = refl
same_kind n (I.RepeatBy turns count) = refl
same_kind n I.End = refl
same_kind n (I.First to number otherwise) = refl
same_kind n (I.Child to parent number otherwise) = refl
same_kind n (I.Move to from) = refl
same_kind n (I.Release node) = refl
same_kind n (I.Get to node field) = refl
same_kind n (I.Put node field from) = refl
same_kind n (I.Kids to node) = refl
same_kind n (I.Emit from) = refl
same_kind n I.Return = refl

closing_kind : (t : Kind) (f g : ℕ → Option ℕ) (d : ℕ) → ((d : ℕ) → f d ≡ g d) → closing_by t f d ≡ closing_by t g d
closing_kind (Opens w) f g d h = ap (option_map suc) (h (suc d))
closing_kind Closes f g zero h = refl
closing_kind Closes f g (suc d) h = ap (option_map suc) (h d)
closing_kind Returns f g d h = ap (option_map suc) (h d)
closing_kind Acts f g d h = ap (option_map suc) (h d)

closing_aimed : (n : ℕ) (k : List Instr) (d : ℕ) → closing (map (aimed n) k) d ≡ closing k d
closing_aimed n [] d = refl
closing_aimed n (i ∷ k) d =
    ap (λ t. closing_by t (closing (map (aimed n) k)) d) (same_kind n i)
    ∙ closing_kind (kind i) (closing (map (aimed n) k)) (closing k) d (λ d. closing_aimed n k d)

drop_tail : (n : ℕ) (c front : List Instr) (i : Instr) (k : List Instr) → c ≡ front ++ i ∷ k → drop (length c - suc (length k) + 1) (map (aimed n) c) ≡ map (aimed n) k
drop_tail n c front i k e =
    let long : length c ≡ length front + suc (length k) = ap length e ∙ length-append front (i ∷ k) in
    let at : length c - suc (length k) + 1 ≡ length (map (aimed n) (front ++ i ∷ [])) =
    sym (length-map (front ++ i ∷ []) (aimed n) ∙ length-append front (i ∷ []) ∙ omega (arith, long)) in
    let parts : map (aimed n) c ≡ map (aimed n) (front ++ i ∷ []) ++ map (aimed n) k =
    ap (map (aimed n)) (e ∙ sym (append_assoc front (i ∷ []) k)) ∙ map-append (aimed n) (front ++ i ∷ []) k in
    ap (drop (length c - suc (length k) + 1)) parts ∙ drop_at (map (aimed n) (front ++ i ∷ [])) (map (aimed n) k) (length c - suc (length k) + 1) (sym at)

-- the loop that an instruction opens ends where its body does
pub loop_here : {c : List Instr} (i : Instr) (w : ℕ) (body k : List Instr) → Tail c (i ∷ body) → kind i ≡ Opens w → Stretch body (I.End ∷ k)
    → loop_at (at_positions c) (length c - suc (length body)) ≡ Some (record { opening = length c - suc (length body); close = length c - suc (length k); count = w })
unfolding loop_at
loop_here {c} i w body k t is s =
    let p = length c - suc (length body) in
    let at : slice_get (at_positions c) p ≡ Some (aimed (length c) i) = fetch i body t in
    let long : length body ≡ length s.front + suc (length k) = ap length s.joined ∙ length-append s.front (I.End ∷ k) in
    let short = tail_length t in
    let ends : closing (drop (p + 1) (at_positions c)) 0 ≡ Some (length s.front) =
    ap (λ l. closing l 0) (drop_tail (length c) c t.front i body t.joined)
    ∙ closing_aimed (length c) body 0
    ∙ ap (λ l. closing l 0) s.joined
    ∙ s.closes (I.End ∷ k) 0
    ∙ ap Some (omega arith) in
    ap (λ o. loop_by (at_positions c) p (option_map kind o)) at
    ∙ ap (λ t. loop_by (at_positions c) p (Some t)) (same_kind (length c) i ∙ is)
    ∙ ap (option_map (λ q. let l : Loop = record { opening = p; close = p + 1 + q; count = w } in l)) ends
    ∙ ap (λ q. let l : Loop = record { opening = p; close = q; count = w } in Some l) (omega (arith, long))
