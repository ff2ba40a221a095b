-- Sequences of paths, and what is held after a statement.
use Rattle.std.proofs.Common.{◌≡◌, ℕ, List, [], ◌∷◌, ◌++◌, ◌+◌, ◌<◌, ◌≤◌, take, drop, Bool, Option, Some, None, append-nil, refl, sym, ap, ap₂, ◌∙◌, subst, arith}
use Rattle.std.specs.Prelude.{option_map, IfSome, IfOk, OnOk, MatchOption, Result, Ok, Err}
use Rattle.std.specs.Option.{unwrap_or}
use Rattle.std.proofs.Math.Seq.{take-add}
use Rattle.tl_lowering.specs.declared.program.Place.{Place}
use Rattle.tl_lowering.specs.declared.program.Place.TheVariants as P
use Rattle.tl_lowering.specs.declared.program.Statement.{Statement}
use Rattle.tl_lowering.specs.declared.program.Statement.TheVariants as S
use Rattle.tl_lowering.specs.Sets.{Nodes, with_node, without_node, both, both_of, all_of}
use Rattle.tl_lowering.specs.Outcomes.{locked, unlocked, next, going_on, handled_by, after, fails, breaks}
use Rattle.tl_lowering.specs.Paths.{Paths, outcomes, on, keeping}
use Rattle.tl_lowering.specs.Blocks.{followed, then_of, outcomes_all, AreWellFormed, IsSequence, IsSame, IsPair, IsAttempt}
use Rattle.tl_lowering.specs.Sound.{IsWellFormed}
use Rattle.tl_lowering.proofs.SetLemmas.{both_self, within_trans, both_within, within_without, within_with, without_with, without_swap, both_of_none, both_of_assoc, all_of_append, keeping_self, keeping_both}

-- ---- one after another

pub then_on : (p : Paths) → then_of p on ≡ p
then_on p = by p.after p.fails p.breaks
  where
    by : (o f b : Option Nodes) → then_of (record { after = o; fails = f; breaks = b }) on ≡ record { after = o; fails = f; breaks = b }
    by None f b = refl
    by (Some h) f b = ap₂ (λ x y. record { after = Some h; fails = x; breaks = y }) (both_of_none f) (both_of_none b)

pub then_assoc : (p : Paths) (f g : Nodes → Paths) → then_of (then_of p f) g ≡ then_of p (λ h. then_of (f h) g)
then_assoc p f g = by p.after p.fails p.breaks
  where
    inner : (o x y v w : Option Nodes) → then_of (record { after = o; fails = both_of x v; breaks = both_of y w }) g
        ≡ record { after = (followed o (record { after = o; fails = v; breaks = w }) g).after; fails = both_of x (followed o (record { after = o; fails = v; breaks = w }) g).fails; breaks = both_of y (followed o (record { after = o; fails = v; breaks = w }) g).breaks }
    inner None x y v w = refl
    inner (Some h) x y v w = ap₂ (λ s t. record { after = (g h).after; fails = s; breaks = t }) (both_of_assoc x v (g h).fails) (both_of_assoc y w (g h).breaks)

    by : (o x y : Option Nodes) → then_of (then_of (record { after = o; fails = x; breaks = y }) f) g ≡ then_of (record { after = o; fails = x; breaks = y }) (λ h. then_of (f h) g)
    by None x y = refl
    by (Some h) x y = inner (f h).after x y (f h).fails (f h).breaks

pub sequence_outcomes : (p q : _) (a b : Statement) (held : Nodes) → outcomes (S.Sequence' p a q b) held ≡ then_of (outcomes a held) (outcomes b)
sequence_outcomes p q a b held = by (after a held) (fails a held) (breaks a held)
  where
    by : (o : Option Nodes) (f k : List Nodes) → record { after = next o (after b); fails = all_of (f ++ going_on o (fails b)); breaks = all_of (k ++ going_on o (breaks b)) }
        ≡ followed o (record { after = o; fails = all_of f; breaks = all_of k }) (outcomes b)
    by None f k = ap₂ (λ s t. record { after = None; fails = all_of s; breaks = all_of t }) (append-nil f) (append-nil k)
    by (Some h) f k = ap₂ (λ s t. record { after = after b h; fails = s; breaks = t }) (all_of_append f (fails b h)) (all_of_append k (breaks b h))

pub then_same : (q : Paths) (f g : Nodes → Paths) → ((k : Nodes) → f k ≡ g k) → then_of q f ≡ then_of q g
then_same q f g e = by q.after q.fails q.breaks
  where
    by : (o x y : Option Nodes) → then_of (record { after = o; fails = x; breaks = y }) f ≡ then_of (record { after = o; fails = x; breaks = y }) g
    by None x y = refl
    by (Some k) x y = ap (λ p. record { after = p.after; fails = both_of x p.fails; breaks = both_of y p.breaks }) (e k)

pub outcomes_append : (xs ys : List Statement) (held : Nodes) → outcomes_all (xs ++ ys) held ≡ then_of (outcomes_all xs held) (outcomes_all ys)
outcomes_append [] ys held = refl
outcomes_append (x ∷ xs) ys held =
    then_same (outcomes x held) (outcomes_all (xs ++ ys)) (λ h. then_of (outcomes_all xs h) (outcomes_all ys)) (outcomes_append xs ys)
    ∙ sym (then_assoc (outcomes x held) (outcomes_all xs) (outcomes_all ys))

-- ---- in order, one after another

pub sound_append : (xs ys : List Statement) (d m : ℕ) (held : Nodes) (in_loop : Bool) → AreWellFormed xs d m held in_loop
    → IfSome (outcomes_all xs held).after (λ h. AreWellFormed ys d m h in_loop) → AreWellFormed (xs ++ ys) d m held in_loop
sound_append [] ys d m held in_loop s t = t
sound_append (x ∷ xs) ys d m held in_loop s t = (s.0, by (λ h. sound_append xs ys d m h in_loop) (after x held) s.1 t)
  where
    by : ((h : Nodes) → AreWellFormed xs d m h in_loop → IfSome (outcomes_all xs h).after (λ k. AreWellFormed ys d m k in_loop) → AreWellFormed (xs ++ ys) d m h in_loop)
        → (o : Option Nodes) → IfSome o (λ h. AreWellFormed xs d m h in_loop) → IfSome (followed o (outcomes x held) (outcomes_all xs)).after (λ h. AreWellFormed ys d m h in_loop)
        → IfSome o (λ h. AreWellFormed (xs ++ ys) d m h in_loop)
    by more None s t = tt
    by more (Some h) s t = more h s t

pub sound_first : (xs ys : List Statement) (d m : ℕ) (held : Nodes) (in_loop : Bool) → AreWellFormed (xs ++ ys) d m held in_loop → AreWellFormed xs d m held in_loop
sound_first [] ys d m held in_loop s = tt
sound_first (x ∷ xs) ys d m held in_loop s = (s.0, by (λ h. sound_first xs ys d m h in_loop) (after x held) s.1)
  where
    by : ((h : Nodes) → AreWellFormed (xs ++ ys) d m h in_loop → AreWellFormed xs d m h in_loop) → (o : Option Nodes) → IfSome o (λ h. AreWellFormed (xs ++ ys) d m h in_loop) → IfSome o (λ h. AreWellFormed xs d m h in_loop)
    by more None s = tt
    by more (Some h) s = more h s

pub sound_second : (xs ys : List Statement) (d m : ℕ) (held : Nodes) (in_loop : Bool) → AreWellFormed (xs ++ ys) d m held in_loop
    → IfSome (outcomes_all xs held).after (λ h. AreWellFormed ys d m h in_loop)
sound_second [] ys d m held in_loop s = s
sound_second (x ∷ xs) ys d m held in_loop s = by (λ h. sound_second xs ys d m h in_loop) (after x held) (all_of (fails x held)) (all_of (breaks x held)) s.1
  where
    by : ((h : Nodes) → AreWellFormed (xs ++ ys) d m h in_loop → IfSome (outcomes_all xs h).after (λ k. AreWellFormed ys d m k in_loop))
        → (o f b : Option Nodes) → IfSome o (λ h. AreWellFormed (xs ++ ys) d m h in_loop)
        → IfSome (then_of (record { after = o; fails = f; breaks = b }) (outcomes_all xs)).after (λ h. AreWellFormed ys d m h in_loop)
    by more None f b s = tt
    by more (Some h) f b s = more h s

pub sequence_none : IsSequence S.Skip []
sequence_none = record { paths = λ held. refl; sound = λ d m held in_loop s. tt }

pub sequence_one : (s : Statement) → IsSequence s (s ∷ [])
sequence_one s = record { paths = λ held. sym (then_on (outcomes s held)); sound = λ d m held in_loop h. h.0 }

pub pair_is : {p : _} {q : _} (a b : Statement) → IsPair (S.Sequence' p a q b) a b
pair_is {p} {q} a b = record { paths = sequence_outcomes p q a b; sound = λ d m held in_loop s t. (s, t) }

pub attempt_is : {p : _} {q : _} (a b : Statement) → IsAttempt (S.Try' p a q b) a b
attempt_is a b = record {
  paths = λ held. ap (λ z. record { after = both_of (after a held) (after b (handled_by held (all_of (fails a held)))); fails = all_of (fails b (handled_by held (all_of (fails a held)))); breaks = z })
      (all_of_append (breaks a held) (breaks b (handled_by held (all_of (fails a held)))));
  sound = λ d m held in_loop s t. (s, t);
}

pub pair_of : {p : _} {q : _} (a b x y : Statement) → a ≡ x → b ≡ y → IsPair (S.Sequence' p a q b) x y
pair_of {p} {q} a b x y e f = subst (λ z. IsPair (S.Sequence' p z q b) x y) (sym e) (subst (λ z. IsPair (S.Sequence' p x q z) x y) (sym f) (pair_is x y))

pub attempt_of : {p : _} {q : _} (a b x y : Statement) → a ≡ x → b ≡ y → IsAttempt (S.Try' p a q b) x y
attempt_of {p} {q} a b x y e f = subst (λ z. IsAttempt (S.Try' p z q b) x y) (sym e) (subst (λ z. IsAttempt (S.Try' p x q z) x y) (sym f) (attempt_is x y))

pub at_of : {p : _} (offset : ℕ) (a x : Statement) → a ≡ x → IsSame (S.At' offset p a) x
at_of {p} offset a x e = subst (λ z. IsSame (S.At' offset p z) x) (sym e) (record { paths = λ held. refl; sound = λ d m held in_loop s. s })

pub sequence_both : (whole a b : Statement) (xs ys : List Statement) → IsPair whole a b → IsSequence a xs → IsSequence b ys → IsSequence whole (xs ++ ys)
sequence_both whole a b xs ys w s t = record {
  paths = λ held. w.paths held ∙ ap (λ z. then_of z (outcomes b)) (s.paths held) ∙ then_same (outcomes_all xs held) (outcomes b) (outcomes_all ys) t.paths ∙ sym (outcomes_append xs ys held);
  sound = λ d m held in_loop h.
      w.sound d m held in_loop (s.sound d m held in_loop (sound_first xs ys d m held in_loop h)) (second d m held in_loop (sound_second xs ys d m held in_loop h));
}
  where
    second : (d m : ℕ) (held : Nodes) (in_loop : Bool) → IfSome (outcomes_all xs held).after (λ h. AreWellFormed ys d m h in_loop) → IfSome (after a held) (λ h. IsWellFormed b d m h in_loop)
    second d m held in_loop h =
        let e : (outcomes_all xs held).after ≡ after a held = sym (ap (λ (p : Paths). p.after) (s.paths held)) in
        by (after a held) (subst (λ o. IfSome o (λ h. AreWellFormed ys d m h in_loop)) e h)
      where
        by : (o : Option Nodes) → IfSome o (λ h. AreWellFormed ys d m h in_loop) → IfSome o (λ h. IsWellFormed b d m h in_loop)
        by None h = tt
        by (Some k) h = t.sound d m k in_loop h

-- ---- results

pub ok_more : {T F : Type 0} (r : Result T F) (P Q : T → Type 0) → IfOk r P → ((x : T) → P x → Q x) → IfOk r Q
ok_more (Ok x) P Q h more = more x h
ok_more (Err e) P Q h more = tt

pub both_ok : {T F : Type 0} (r : Result T F) (P Q R : T → Type 0) → IfOk r P → IfOk r Q → ((x : T) → P x → Q x → R x) → IfOk r R
both_ok (Ok x) P Q R p q more = more x p q
both_ok (Err e) P Q R p q more = tt

pub ok_both : {T F : Type 0} (r : Result T F) (A : Type 0) (P Q : T → Type 0) → IfOk r P → OnOk r A → ((x : T) → P x → A → Q x) → IfOk r Q
ok_both (Ok x) A P Q p a more = more x p a
ok_both (Err e) A P Q p a more = tt

-- ---- a list of statements, halved

pub few : (count n m : ℕ) (o : Option Statement) (xs ys : List Statement) (s : Statement) → 0 < count → count < 2 → count ≤ n
    → MatchOption o ((n ≡ 0) × (m ≡ 0)) (λ x. (xs ≡ x ∷ ys) × (m + 1 ≡ n)) → s ≡ unwrap_or o S.Skip → IsSequence s (take count xs) × (ys ≡ drop count xs) × (m + count ≡ n)
few count n m None xs ys s some one fits e f = absurd (let z : n ≡ 0 = e.0 in omega arith)
few count n m (Some x) xs ys s some one fits e f =
    let c : count ≡ 1 = omega arith in
    let w : xs ≡ x ∷ ys = e.0 in
    let more : m + 1 ≡ n = e.1 in
    (subst (IsSequence s) (sym (ap₂ take c w)) (subst (λ z. IsSequence z (x ∷ [])) (sym f) (sequence_one x)), sym (ap₂ drop c w), omega arith)

pub halved : (count half left : ℕ) (xs rest : List Statement) (whole a b : Statement) → half + left ≡ count → IsPair whole a b → IsSequence a (take half xs)
    → rest ≡ drop half xs → IsSequence b (take left rest) → IsSequence whole (take count xs)
halved count half left xs rest whole a b e w s f t =
    subst (IsSequence whole) (ap (λ z. take half xs ++ take left z) f ∙ sym (take-add half left xs) ∙ ap (λ n. take n xs) e)
    (sequence_both whole a b (take half xs) (take left rest) w s t)

-- ---- nothing is held behind a statement that wasn't held before it

keeping_more : (h k : Nodes) (o : Option Nodes) → both k h ≡ k → keeping k o ≡ o → keeping h o ≡ o
keeping_more h k None e f = refl
keeping_more h k (Some a) e f = let g : both a k ≡ a = cc in ap Some (within_trans a k h g e)

keeping_next : (b : Statement) (h : Nodes) (o : Option Nodes) → ((k : Nodes) → keeping k (after b k) ≡ after b k) → keeping h o ≡ o → keeping h (next o (after b)) ≡ next o (after b)
keeping_next b h None more e = refl
keeping_next b h (Some k) more e = let f : both k h ≡ k = cc in keeping_more h k (after b k) f (more k)

keeping_either : (h : Nodes) (a b : Option Nodes) → keeping h a ≡ a → keeping h b ≡ b → keeping h (both_of a b) ≡ both_of a b
keeping_either h a b e f = keeping_both h a b ∙ ap₂ both_of e f

keeping_unlocked : (place : Place) (h : Nodes) (a : Option Nodes) → keeping (locked place h) a ≡ a → keeping h (option_map (unlocked place) a) ≡ option_map (unlocked place) a
keeping_unlocked place h None e = refl
keeping_unlocked (P.Node n x) h (Some a) e = let f : both a (with_node h n) ≡ a = cc in ap Some (without_with a h n f)
keeping_unlocked (P.Child n p x) h (Some a) e = let f : both a (with_node h n) ≡ a = cc in ap Some (without_with a h n f)
keeping_unlocked (P.Pair n k p x y) h (Some a) e = let f : both a (with_node (with_node h n) k) ≡ a = cc in ap Some (pair a f)
  where
    pair : (a : Nodes) → both a (with_node (with_node h n) k) ≡ a → both (without_node (without_node a n) k) h ≡ without_node (without_node a n) k
    pair a f = rw (without_swap a n k) (without_with (without_node a k) h n (without_with a (with_node h n) k f))

locked_within : (place : Place) (h : Nodes) → both h (locked place h) ≡ h
locked_within (P.Node n x) h = within_with h n
locked_within (P.Child n p x) h = within_with h n
locked_within (P.Pair n k p x y) h = within_trans h (with_node h n) (with_node (with_node h n) k) (within_with h n) (within_with (with_node h n) k)

handled_within : (h : Nodes) (o : Option Nodes) → both (handled_by h o) h ≡ handled_by h o
handled_within h None = both_self h
handled_within h (Some k) = both_within k h

pub keeping_after : (s : Statement) (h : Nodes) → keeping h (after s h) ≡ after s h
keeping_after S.Skip h = ap Some (both_self h)
keeping_after (S.Sequence' p a q b) h = keeping_next b h (after a h) (keeping_after b) (keeping_after a h)
keeping_after (S.Assign x e) h = ap Some (both_self h)
keeping_after (S.Write n f e) h = ap Some (both_self h)
keeping_after (S.Emit e) h = ap Some (both_self h)
keeping_after (S.Free n) h = ap Some (within_without h n)
keeping_after (S.Descend n e) h = ap Some (both_self h)
keeping_after (S.Take n k) h = ap Some (within_without h k)
keeping_after S.Break h = refl
keeping_after S.Return h = refl
keeping_after S.Fail h = refl
keeping_after (S.If' c p a q b) h = keeping_either h (after a h) (after b h) (keeping_after a h) (keeping_after b h)
keeping_after (S.Let' x e p a) h = keeping_after a h
keeping_after (S.LetElse' x e p a q o) h = keeping_either h (after a h) (after o h) (keeping_after a h) (keeping_after o h)
keeping_after (S.Lock' place p a q o) h =
    keeping_unlocked place h (both_of (after a (locked place h)) (after o h))
    (keeping_either (locked place h) (after a (locked place h)) (after o h) (keeping_after a (locked place h)) (keeping_more (locked place h) h (after o h) (locked_within place h) (keeping_after o h)))
keeping_after (S.Try' p a q b) h =
    let k : Nodes = handled_by h (all_of (fails a h)) in
    keeping_either h (after a h) (after b k) (keeping_after a h) (keeping_more h k (after b k) (handled_within h (all_of (fails a h))) (keeping_after b k))
keeping_after (S.Repeat' w p a) h = keeping_self h _
keeping_after (S.RepeatUpTo' e w p a) h = keeping_self h _
keeping_after (S.At' offset p a) h = keeping_after a h
