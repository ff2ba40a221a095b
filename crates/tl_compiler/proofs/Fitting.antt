-- The registers of a code fit if its marks are built from the end.
use Rattle.std.proofs.Common.{◌≡◌, ◌⊎◌, inl, inr, ℕ, suc, ◌+◌, ◌-◌, ◌<◌, ◌≤◌, List, [], ◌∷◌, ◌++◌, length, get_or, Bool, true, false, Option, Some, None, if◌then◌else◌, refl, sym, ◌∙◌, ap, subst, arith, append_assoc}
use Rattle.std.specs.Prelude.{slice_get, option_map, nat_eq}
use Rattle.std.proofs.lemmas.List.{length-append, length-map}
use Rattle.std.proofs.lemmas.Bool.{cases_order, eqb-true}
use Rattle.std.proofs.lemmas.Option.{slice_get_within}
use Rattle.tl_instr.specs.declared.instr.Instr.{Instr}
use Rattle.tl_instr.specs.declared.instr.Instr.TheVariants as I
use Rattle.tl_instr.specs.Instructions.{target}
use Rattle.tl_budget.specs.Loops.{Kind, Opens, Closes, kind, kind_at, Loop, loop_at}
use Rattle.tl_budget.specs.declared.limits.TheConstants.{MAX_DEPTH}
use Rattle.tl_budget.proofs.LoopWays.{closes_further_on, inside_or_apart}
use Rattle.tl_verify.specs.declared.marks.Marks.{Marks}
use Rattle.tl_verify.specs.Marks.{entry, after, goes_on, source, destination, is_first, is_return, close_of, end_of, aside, Leads, to_next, to_aside, to_body}
use Rattle.tl_verify.specs.Acceptable.{Allows, Arrives, HasFit}
use Rattle.tl_compiler.specs.Aiming.{aimed, at_positions}
use Rattle.tl_compiler.specs.Tails.{Tail}
use Rattle.tl_compiler.proofs.TailLemmas.{fetch, tail_further, tail_behind, tail_length, aimed_at}
use Rattle.tl_compiler.proofs.Stretches.{tail_of_stretch, same_kind, loop_here}
use Rattle.tl_compiler.proofs.Nestings.{IsStraight, Nests, nests_stretch}
use Rattle.tl_compiler.proofs.Landings.{target_aimed, target_none}
use Rattle.tl_compiler.proofs.Markings.{at_label, Brings, brings_on, Passes, is_by, Marked, none, dead, live, turn, marked_long}

-- ---- marks by labels and by positions

-- the second list is an end of the first
pub record Ends (whole end : List (Option Marks)) : Type 0 where
  pub front : List (Option Marks)
  pub joined : whole ≡ front ++ end

ends_whole : (ms : List (Option Marks)) → Ends ms ms
ends_whole ms = record { front = []; joined = refl }

ends_on : {ms ns : List (Option Marks)} {x : Option Marks} → Ends ms (x ∷ ns) → Ends ms ns
ends_on {ms} {ns} {x} e = record { front = e.front ++ x ∷ []; joined = e.joined ∙ sym (append_assoc e.front (x ∷ []) ns) }

ends_more : {ms ns : List (Option Marks)} (x : Option Marks) → Ends ms ns → Ends (x ∷ ms) ns
ends_more x e = record { front = x ∷ e.front; joined = ap (λ l. x ∷ l) e.joined }

ends_further : {ms ns ls : List (Option Marks)} → Ends ms ns → Ends ns ls → Ends ms ls
ends_further {ms} {ns} {ls} e f = record { front = e.front ++ f.front; joined = e.joined ∙ ap (λ l. e.front ++ l) f.joined ∙ sym (append_assoc e.front f.front ls) }

marked_ends : {c k : List Instr} {ms ns : List (Option Marks)} → Marked c ms k ns → Ends ms ns
marked_ends {ms = ms} none = ends_whole ms
marked_ends (dead n) = ends_more None (marked_ends n)
marked_ends (live {m = m} s p n) = ends_more (Some m) (marked_ends n)
marked_ends (turn {m = m} {last = last} o nests body into past ends n) = ends_more (Some m) (ends_further (ends_on (marked_ends body)) (marked_ends n))

pub marked_tail : {c k : List Instr} {ms ns : List (Option Marks)} → Marked c ms k ns → Tail c k
marked_tail {c = c} none = record { front = []; joined = refl }
marked_tail (dead {i = i} {c = c} n) = tail_further (tail_behind i c) (marked_tail n)
marked_tail (live {i = i} {c = c} s p n) = tail_further (tail_behind i c) (marked_tail n)
marked_tail (turn {i = i} {body = body} {j = j} o nests inside into past ends n) = tail_further (tail_behind i body) (tail_further (marked_tail inside) (tail_further (tail_behind I.End j) (marked_tail n)))

brings_all : {l : ℕ} {m : Marks} (front ns : List (Option Marks)) → Brings ns l m → Brings (front ++ ns) l m
brings_all [] ns b = b
brings_all (x ∷ front) ns b = brings_on x (brings_all front ns b)

brings_in : {ms ns : List (Option Marks)} {l : ℕ} {m : Marks} → Ends ms ns → Brings ns l m → Brings ms l m
brings_in {ms} {ns} {l} {m} e b = subst (λ xs. Brings xs l m) (sym e.joined) (brings_all e.front ns b)

-- the element at a label has that distance from the end
label_at : {A : Type 0} (xs : List A) (l : ℕ) (x d : A) → at_label xs l ≡ Some x → (0 < l) × (l ≤ length xs) × (get_or xs (length xs - l) d ≡ x)
label_at [] l x d e = cc
label_at (y ∷ xs) l x d e = by (nat_eq l (suc (length xs))) refl e (λ f. label_at xs l x d f)
  where
    by : (b : Bool) → nat_eq l (suc (length xs)) ≡ b → (if b then Some y else at_label xs l) ≡ Some x → (at_label xs l ≡ Some x → (0 < l) × (l ≤ length xs) × (get_or xs (length xs - l) d ≡ x))
        → (0 < l) × (l ≤ suc (length xs)) × (get_or (y ∷ xs) (suc (length xs) - l) d ≡ x)
    by true t f rest =
        let h = eqb-true l (suc (length xs)) t in
        let at : suc (length xs) - l ≡ 0 = omega arith in
        let same : y ≡ x = cc in
        (omega arith, omega arith, ap (λ p. get_or (y ∷ xs) p d) at ∙ same)
    by false t f rest =
        let h = rest f in
        let some = h.0 in let le = h.1 in
        let at : suc (length xs) - l ≡ suc (length xs - l) = omega arith in
        (some, omega arith, ap (λ p. get_or (y ∷ xs) p d) at ∙ h.2)

get_front : (front : List (Option Marks)) (x : Option Marks) (ns : List (Option Marks)) → get_or (front ++ x ∷ ns) (length front) None ≡ x
get_front [] x ns = refl
get_front (y ∷ front) x ns = get_front front x ns

-- the element at the start of an end
get_end : {ms ns : List (Option Marks)} {x : Option Marks} → Ends ms (x ∷ ns) → get_or ms (length ms - suc (length ns)) None ≡ x
get_end {ms} {ns} {x} e =
    let long : length ms ≡ length e.front + suc (length ns) = ap length e.joined ∙ length-append e.front (x ∷ ns) in
    let at : length ms - suc (length ns) ≡ length e.front = omega (arith, long) in
    ap (λ p. get_or ms p None) at ∙ ap (λ xs. get_or xs (length e.front) None) e.joined ∙ get_front e.front x ns

-- ---- instructions with positions in the place of labels

same_source : (n : ℕ) (i : Instr) → source (aimed n i) ≡ source i
same_source n (I.Set to number) = refl
same_source n (I.Copy to from) = refl
same_source n (I.Add to left right otherwise) = refl
same_source n (I.Subtract to left right otherwise) = refl
same_source n (I.Multiply to left right otherwise) = refl
same_source n (I.Divide to left right otherwise) = refl
same_source n (I.Jump to) = refl
same_source n (I.JumpIfLess left right to) = refl
same_source n (I.JumpIfEqual left right to) = refl
same_source n (I.Repeat count) = refl
same_source n (I.RepeatBy turns count) = refl
same_source n I.End = refl
same_source n (I.First to number otherwise) = refl
same_source n (I.Child to parent number otherwise) = refl
same_source n (I.Move to from) = refl
same_source n (I.Release node) = refl
same_source n (I.Get to node field) = refl
same_source n (I.Put node field from) = refl
same_source n (I.Kids to node) = refl
same_source n (I.Emit from) = refl
same_source n I.Return = refl

-- the instructions have the same requirements and effects, apart from their targets
record Same (i j : Instr) : Type 0 where
  held : source j ≡ source i
  empty : destination j ≡ destination i
  first : is_first j ≡ is_first i
  last : is_return j ≡ is_return i
  goes : goes_on j ≡ goes_on i
  behind : (m : Marks) → after j m ≡ after i m

same_aimed : (n : ℕ) (i : Instr) → Same i (aimed n i)
same_aimed n (I.Set to number) = record { held = refl; empty = refl; first = refl; last = refl; goes = refl; behind = λ m. refl }
same_aimed n (I.Copy to from) = record { held = refl; empty = refl; first = refl; last = refl; goes = refl; behind = λ m. refl }
same_aimed n (I.Add to left right otherwise) = record { held = refl; empty = refl; first = refl; last = refl; goes = refl; behind = λ m. refl }
same_aimed n (I.Subtract to left right otherwise) = record { held = refl; empty = refl; first = refl; last = refl; goes = refl; behind = λ m. refl }
same_aimed n (I.Multiply to left right otherwise) = record { held = refl; empty = refl; first = refl; last = refl; goes = refl; behind = λ m. refl }
same_aimed n (I.Divide to left right otherwise) = record { held = refl; empty = refl; first = refl; last = refl; goes = refl; behind = λ m. refl }
same_aimed n (I.Jump to) = record { held = refl; empty = refl; first = refl; last = refl; goes = refl; behind = λ m. refl }
same_aimed n (I.JumpIfLess left right to) = record { held = refl; empty = refl; first = refl; last = refl; goes = refl; behind = λ m. refl }
same_aimed n (I.JumpIfEqual left right to) = record { held = refl; empty = refl; first = refl; last = refl; goes = refl; behind = λ m. refl }
same_aimed n (I.Repeat count) = record { held = refl; empty = refl; first = refl; last = refl; goes = refl; behind = λ m. refl }
same_aimed n (I.RepeatBy turns count) = record { held = refl; empty = refl; first = refl; last = refl; goes = refl; behind = λ m. refl }
same_aimed n I.End = record { held = refl; empty = refl; first = refl; last = refl; goes = refl; behind = λ m. refl }
same_aimed n (I.First to number otherwise) = record { held = refl; empty = refl; first = refl; last = refl; goes = refl; behind = λ m. refl }
same_aimed n (I.Child to parent number otherwise) = record { held = refl; empty = refl; first = refl; last = refl; goes = refl; behind = λ m. refl }
same_aimed n (I.Move to from) = record { held = refl; empty = refl; first = refl; last = refl; goes = refl; behind = λ m. refl }
same_aimed n (I.Release node) = record { held = refl; empty = refl; first = refl; last = refl; goes = refl; behind = λ m. refl }
same_aimed n (I.Get to node field) = record { held = refl; empty = refl; first = refl; last = refl; goes = refl; behind = λ m. refl }
same_aimed n (I.Put node field from) = record { held = refl; empty = refl; first = refl; last = refl; goes = refl; behind = λ m. refl }
same_aimed n (I.Kids to node) = record { held = refl; empty = refl; first = refl; last = refl; goes = refl; behind = λ m. refl }
same_aimed n (I.Emit from) = record { held = refl; empty = refl; first = refl; last = refl; goes = refl; behind = λ m. refl }
same_aimed n I.Return = record { held = refl; empty = refl; first = refl; last = refl; goes = refl; behind = λ m. refl }

allows_aimed : (n : ℕ) (i : Instr) (m : Marks) → Allows i m → Allows (aimed n i) m
allows_aimed n i m a =
    let s = same_aimed n i in
    record {
      held = λ k e. a.held k (sym s.held ∙ e);
      empty = λ k e. a.empty k (sym s.empty ∙ e);
      is_open = λ e. a.is_open (sym s.first ∙ e);
      returns = λ e. a.returns (sym s.last ∙ e);
    }

-- a loop's instructions require nothing
opens_allows : (i : Instr) (w : ℕ) (m : Marks) → kind i ≡ Opens w → Allows i m
opens_allows (I.Repeat count) w m e = record { held = λ k f. cc; empty = λ k f. cc; is_open = λ f. cc; returns = λ f. cc }
opens_allows (I.RepeatBy turns count) w m e = record { held = λ k f. cc; empty = λ k f. cc; is_open = λ f. cc; returns = λ f. cc }
opens_allows I.Return w m e = cc
opens_allows I.End w m e = cc
opens_allows (I.Set to number) w m e = cc
opens_allows (I.Copy to from) w m e = cc
opens_allows (I.Add to left right otherwise) w m e = cc
opens_allows (I.Subtract to left right otherwise) w m e = cc
opens_allows (I.Multiply to left right otherwise) w m e = cc
opens_allows (I.Divide to left right otherwise) w m e = cc
opens_allows (I.Jump to) w m e = cc
opens_allows (I.JumpIfLess left right to) w m e = cc
opens_allows (I.JumpIfEqual left right to) w m e = cc
opens_allows (I.First to number otherwise) w m e = cc
opens_allows (I.Child to parent number otherwise) w m e = cc
opens_allows (I.Move to from) w m e = cc
opens_allows (I.Release node) w m e = cc
opens_allows (I.Get to node field) w m e = cc
opens_allows (I.Put node field from) w m e = cc
opens_allows (I.Kids to node) w m e = cc
opens_allows (I.Emit from) w m e = cc

opens_after : (i : Instr) (w : ℕ) (m : Marks) → kind i ≡ Opens w → after i m ≡ m
opens_after (I.Repeat count) w m e = refl
opens_after (I.RepeatBy turns count) w m e = refl
opens_after (I.First to number otherwise) w m e = cc
opens_after (I.Child to parent number otherwise) w m e = cc
opens_after (I.Move to from) w m e = cc
opens_after (I.Release node) w m e = cc
opens_after i w m e = refl

end_allows : (m : Marks) → Allows I.End m
end_allows m = record { held = λ k e. cc; empty = λ k e. cc; is_open = λ e. cc; returns = λ e. cc }

-- ---- the whole code

-- a loop's opening has only the position after the loop's end as its target
opens_aside : (c : List Instr) (p to : ℕ) (n : ℕ) (i : Instr) (w : ℕ) → kind i ≡ Opens w → aside c p (aimed n i) ≡ Some to → (is_by i ≡ true) × (to ≡ end_of c p + 1)
opens_aside c p to n (I.Repeat count) w e f = cc
opens_aside c p to n (I.RepeatBy turns count) w e f = let h : end_of c p + 1 ≡ to = cc in (refl, sym h)
opens_aside c p to n (I.Set t number) w e f = cc
opens_aside c p to n (I.Copy t from) w e f = cc
opens_aside c p to n (I.Add t left right otherwise) w e f = cc
opens_aside c p to n (I.Subtract t left right otherwise) w e f = cc
opens_aside c p to n (I.Multiply t left right otherwise) w e f = cc
opens_aside c p to n (I.Divide t left right otherwise) w e f = cc
opens_aside c p to n (I.Jump t) w e f = cc
opens_aside c p to n (I.JumpIfLess left right t) w e f = cc
opens_aside c p to n (I.JumpIfEqual left right t) w e f = cc
opens_aside c p to n I.End w e f = cc
opens_aside c p to n (I.First t number otherwise) w e f = cc
opens_aside c p to n (I.Child t parent number otherwise) w e f = cc
opens_aside c p to n (I.Move t from) w e f = cc
opens_aside c p to n (I.Release node) w e f = cc
opens_aside c p to n (I.Get t node field) w e f = cc
opens_aside c p to n (I.Put node field from) w e f = cc
opens_aside c p to n (I.Kids t node) w e f = cc
opens_aside c p to n (I.Emit from) w e f = cc
opens_aside c p to n I.Return w e f = cc

straight_aside : (c : List Instr) (p to : ℕ) (n : ℕ) (i : Instr) → IsStraight i → aside c p (aimed n i) ≡ Some to → target (aimed n i) ≡ Some to
straight_aside c p to n (I.RepeatBy turns count) (inl s) e = cc
straight_aside c p to n (I.RepeatBy turns count) (inr s) e = cc
straight_aside c p to n (I.Set t number) s e = e
straight_aside c p to n (I.Copy t from) s e = e
straight_aside c p to n (I.Add t left right otherwise) s e = e
straight_aside c p to n (I.Subtract t left right otherwise) s e = e
straight_aside c p to n (I.Multiply t left right otherwise) s e = e
straight_aside c p to n (I.Divide t left right otherwise) s e = e
straight_aside c p to n (I.Jump t) s e = e
straight_aside c p to n (I.JumpIfLess left right t) s e = e
straight_aside c p to n (I.JumpIfEqual left right t) s e = e
straight_aside c p to n (I.Repeat count) s e = e
straight_aside c p to n I.End s e = e
straight_aside c p to n (I.First t number otherwise) s e = e
straight_aside c p to n (I.Child t parent number otherwise) s e = e
straight_aside c p to n (I.Move t from) s e = e
straight_aside c p to n (I.Release node) s e = e
straight_aside c p to n (I.Get t node field) s e = e
straight_aside c p to n (I.Put node field from) s e = e
straight_aside c p to n (I.Kids t node) s e = e
straight_aside c p to n (I.Emit from) s e = e
straight_aside c p to n I.Return s e = e

-- a target among positions comes from one among labels
from_target : (n to : ℕ) (i : Instr) → target (aimed n i) ≡ Some to → (t : ℕ) × (target i ≡ Some t) × (to ≡ n - t)
from_target n to i e = by (target i) refl
  where
    by : (o : Option ℕ) → target i ≡ o → (t : ℕ) × (target i ≡ Some t) × (to ≡ n - t)
    by None f = let h = target_none n i f in cc
    by (Some t) f = let h = target_aimed n i t f in let same : n - t ≡ to = cc in (t, f, sym same)

module _ (c : List Instr) (ms : List (Option Marks)) (long : length ms ≡ length c) (short : length c ≤ 65535) where
  abbrev code : List Instr
  code = at_positions c

  -- if marks fit at a label, control arrives at its position with them
  arrives : (l to : ℕ) (m : Marks) → Brings ms l m → to ≡ length c - l → Arrives code ms to m
  arrives l to m b e =
      let h = label_at ms l (Some b.there) None b.at in
      let some = h.0 in let le = h.1 in
      let size = length-map c (aimed (length c)) in
      let at : length ms - l ≡ to = omega (arith, e, long) in
      record { inside = omega (arith, e, some, le, long, size); marks = b.there; there = ap (λ p. get_or ms p None) (sym at) ∙ h.2; held = b.held; is_open = b.is_open }

  -- what is required at a position
  abbrev IsGood : ℕ → Type 0
  IsGood p = (i : Instr) (m : Marks) → slice_get code p ≡ Some i → get_or ms p None ≡ Some m → Allows i m × ((to : ℕ) (k : Marks) → Leads code i p m to k → Arrives code ms to k)

  no_body : (p : ℕ) (i : Instr) (q : Kind) → slice_get code p ≡ Some i → kind i ≡ q → (q ≡ Closes → ⊥) → (o : ℕ) (l : Loop) → loop_at code o ≡ Some l → l.close ≡ p → ⊥
  no_body p i q at e other o l opens closes =
      let h = (closes_further_on code o l opens).2 in
      let g : kind_at code p ≡ Some Closes = subst (λ r. kind_at code r ≡ Some Closes) closes h in
      let f : Some (kind i) ≡ Some Closes = sym (ap (option_map kind) at) ∙ g in
      let k : kind i ≡ Closes = cc in
      other (sym e ∙ k)

  straight_not : (i : Instr) → IsStraight i → kind i ≡ Closes → ⊥
  straight_not i (inl s) e = cc
  straight_not i (inr s) e = cc

  -- an instruction that goes on as required
  live_good : (i : Instr) (c' : List Instr) (m : Marks) (ns : List (Option Marks)) → Tail c (i ∷ c') → Ends ms (Some m ∷ ns) → length ns ≡ length c' → IsStraight i → Passes i m ns → IsGood (length c - suc (length c'))
  live_good i c' m ns tail ends size s passes j n at is = subst (λ x. Allows x n × ((to : ℕ) (k : Marks) → Leads code x p n to k → Arrives code ms to k)) same
      (subst (λ y. Allows (aimed (length c) i) y × ((to : ℕ) (k : Marks) → Leads code (aimed (length c) i) p y to k → Arrives code ms to k)) same_marks (allows_aimed (length c) i m passes.allows, leads))
    where
      p : ℕ
      p = length c - suc (length c')

      same : aimed (length c) i ≡ j
      same = let h : Some (aimed (length c) i) ≡ Some j = sym (fetch i c' tail) ∙ at in cc

      place : length ms - suc (length ns) ≡ p
      place = omega (arith, long, size)

      same_marks : m ≡ n
      same_marks = let h : Some (Some m) ≡ Some (Some n) = ap Some (sym (get_end ends) ∙ ap (λ q. get_or ms q None) place ∙ is) in cc

      below : suc (length c') ≤ length c
      below = tail_length tail

      leads : (to : ℕ) (k : Marks) → Leads code (aimed (length c) i) p m to k → Arrives code ms to k
      leads to k (to_next goes e got) =
          let sm = same_aimed (length c) i in
          let b = brings_in (ends_on ends) (passes.next (sym sm.goes ∙ goes)) in
          subst (Arrives code ms to) (sym (got ∙ sm.behind m)) (arrives (length ns) to (after i m) b (omega (arith, e, below, size)))
      leads to k (to_aside e got) =
          let t = from_target (length c) to i (straight_aside code p to (length c) i s e) in
          let x = passes.aside t.0 t.1 in
          let b = brings_in (ends_on ends) x.2 in
          let low = (label_at ms x.0 (Some b.there) None b.at).1 in
          let target_is = x.1 in
          let labelled = aimed_at (length c) x.0 short (omega (arith, low, long)) in
          let there = t.2 in
          subst (Arrives code ms to) (sym got) (arrives x.0 to m b (there ∙ ap (λ q. length c - q) target_is ∙ labelled))
      leads to k (to_body o l opens closes e got) =
          absurd (no_body p (aimed (length c) i) (kind i) (fetch i c' tail) (same_kind (length c) i) (straight_not i s) o l opens closes)

  dead_good : (i : Instr) (c' : List Instr) (ns : List (Option Marks)) → Tail c (i ∷ c') → Ends ms (None ∷ ns) → length ns ≡ length c' → IsGood (length c - suc (length c'))
  dead_good i c' ns tail ends size j n at is =
      let below = tail_length tail in
      let place : length ms - suc (length ns) ≡ length c - suc (length c') = omega (arith, long, size) in
      let h : None ≡ Some n = sym (get_end ends) ∙ ap (λ q. get_or ms q None) place ∙ is in
      cc

  -- a loop
  module _ (i : Instr) (w : ℕ) (body j : List Instr) (mb mj : List (Option Marks)) (m : Marks) (last : Option Marks) (tail : Tail c (i ∷ body)) (ends : Ends ms (Some m ∷ mb)) (opens : kind i ≡ Opens w) (nests : Nests MAX_DEPTH body (I.End ∷ j))
      (size : length mb ≡ length body) (size_j : length mj ≡ length j) (inside : Ends mb (last ∷ mj)) where
    here_is : ℕ
    here_is = length c - suc (length body)

    there_is : ℕ
    there_is = length c - suc (length j)

    below : suc (length body) ≤ length c
    below = tail_length tail

    shorter : suc (length j) ≤ length body
    shorter = tail_length (tail_of_stretch (nests_stretch nests))

    made : Loop
    made = record { opening = length c - suc (length body); close = length c - suc (length j); count = w }

    loop_is : loop_at code (length c - suc (length body)) ≡ Some (record { opening = length c - suc (length body); close = length c - suc (length j); count = w })
    loop_is = loop_here i w body j tail opens (nests_stretch nests)

    opening_good : Brings mb (length mb) m → (is_by i ≡ true → Brings mj (length mj) m) → IsGood (length c - suc (length body))
    opening_good into past x n at is = subst (λ y. Allows y n × ((to : ℕ) (k : Marks) → Leads code y (length c - suc (length body)) n to k → Arrives code ms to k)) same
        (subst (λ z. Allows (aimed (length c) i) z × ((to : ℕ) (k : Marks) → Leads code (aimed (length c) i) (length c - suc (length body)) z to k → Arrives code ms to k)) same_marks
        (allows_aimed (length c) i m (opens_allows i w m opens), leads))
      where
        same : aimed (length c) i ≡ x
        same = let h : Some (aimed (length c) i) ≡ Some x = sym (fetch i body tail) ∙ at in cc

        same_marks : m ≡ n
        same_marks =
            let place : length ms - suc (length mb) ≡ length c - suc (length body) = omega (arith, long, size) in
            let h : Some (Some m) ≡ Some (Some n) = ap Some (sym (get_end ends) ∙ ap (λ q. get_or ms q None) place ∙ is) in cc

        leads : (to : ℕ) (k : Marks) → Leads code (aimed (length c) i) (length c - suc (length body)) m to k → Arrives code ms to k
        leads to k (to_next goes e got) =
            let sm = same_aimed (length c) i in
            let b = brings_in (ends_on ends) into in
            subst (Arrives code ms to) (sym (got ∙ sm.behind m ∙ opens_after i w m opens)) (arrives (length mb) to m b (omega (arith, e, below, size)))
        leads to k (to_aside e got) =
            let h = opens_aside code (length c - suc (length body)) to (length c) i w opens e in
            let b = brings_in (ends_on (ends_further (ends_on ends) inside)) (past h.0) in
            let close : end_of code (length c - suc (length body)) ≡ length c - suc (length j) = ap (close_of (length c - suc (length body))) loop_is in
            let at_to = h.1 in
            subst (Arrives code ms to) (sym got) (arrives (length mj) to m b (omega (arith, at_to, close, below, shorter, size_j)))
        leads to k (to_body o l there closes e got) =
            absurd (no_body (length c - suc (length body)) (aimed (length c) i) (Opens w) (fetch i body tail) (same_kind (length c) i ∙ opens) (λ f. cc) o l there closes)

    tail_end : Tail c (I.End ∷ j)
    tail_end = tail_further (tail_further tail (tail_behind i body)) (tail_of_stretch (nests_stretch nests))

    -- an end closes only one loop
    ours : (o : ℕ) (l : Loop) → loop_at code o ≡ Some l → l.close ≡ length c - suc (length j) → o ≡ length c - suc (length body)
    ours o l there closes = by (cases_order o (length c - suc (length body)))
      where
        far : length c - suc (length body) < length c - suc (length j)
        far = omega (arith, below, shorter)

        by : (o ≡ length c - suc (length body)) ⊎ ((o < length c - suc (length body)) ⊎ (length c - suc (length body) < o)) → o ≡ length c - suc (length body)
        by (inl same) = same
        by (inr (inl before)) = absurd (one (inside_or_apart code o (length c - suc (length body)) l (record { opening = length c - suc (length body); close = length c - suc (length j); count = w }) there loop_is before))
          where
            one : (length c - suc (length j) < l.close) ⊎ (l.close < length c - suc (length body)) → ⊥
            one (inl less) = omega (arith, less, closes)
            one (inr less) = omega (arith, less, closes, far)
        by (inr (inr behind)) = absurd (one (inside_or_apart code (length c - suc (length body)) o (record { opening = length c - suc (length body); close = length c - suc (length j); count = w }) l loop_is there behind))
          where
            one : (l.close < length c - suc (length j)) ⊎ (length c - suc (length j) < o) → ⊥
            one (inl less) = omega (arith, less, closes)
            one (inr less) = let h = (closes_further_on code o l there).1 in omega (arith, less, closes, h)

    end_good : ((k : Marks) → last ≡ Some k → Brings mj (length mj) k × Brings mb (length mb) k) → IsGood (length c - suc (length j))
    end_good again x n at is = subst (λ y. Allows y n × ((to : ℕ) (k : Marks) → Leads code y (length c - suc (length j)) n to k → Arrives code ms to k)) same (end_allows n, leads)
      where
        same : I.End ≡ x
        same = let h : Some I.End ≡ Some x = sym (fetch I.End j tail_end) ∙ at in cc

        last_is : last ≡ Some n
        last_is =
            let place : length ms - suc (length mj) ≡ length c - suc (length j) = omega (arith, long, size_j) in
            sym (get_end (ends_further (ends_on ends) inside)) ∙ ap (λ q. get_or ms q None) place ∙ is

        below_end : suc (length j) ≤ length c
        below_end = tail_length tail_end

        leads : (to : ℕ) (k : Marks) → Leads code I.End (length c - suc (length j)) n to k → Arrives code ms to k
        leads to k (to_next goes e got) =
            let b = brings_in (ends_on (ends_further (ends_on ends) inside)) (again n last_is).0 in
            subst (Arrives code ms to) (sym got) (arrives (length mj) to n b (omega (arith, e, below_end, size_j)))
        leads to k (to_aside e got) = cc
        leads to k (to_body o l there closes e got) =
            let b = brings_in (ends_on ends) (again n last_is).1 in
            let at_o = ours o l there closes in
            subst (Arrives code ms to) (sym got) (arrives (length mb) to n b (omega (arith, e, at_o, below, size)))

  -- the whole code
  pub good : {c' k : List Instr} {ns ls : List (Option Marks)} → Marked c' ns k ls → Tail c c' → Ends ms ns → length ls ≡ length k → (p : ℕ) → length c - length c' ≤ p → p < length c - length k → IsGood p
  good none tail ends size p low high = absurd (omega arith)
  good {k = k} (dead {i = i} {c = c'} {ms = ns} n) tail ends size p low high = by (cases_order (length c - suc (length c')) p) (λ least. good n (tail_further tail (tail_behind i c')) (ends_on ends) size p least high)
    where
      by : (length c - suc (length c') ≡ p) ⊎ ((length c - suc (length c') < p) ⊎ (p < length c - suc (length c'))) → (length c - length c' ≤ p → IsGood p) → IsGood p
      by (inl same) rest = subst IsGood same (dead_good i c' ns tail ends (marked_long n size))
      by (inr (inl behind)) rest = let below = tail_length tail in rest (omega (arith, behind, below))
      by (inr (inr before)) rest = absurd (omega arith)
  good {k = k} (live {i = i} {c = c'} {ms = ns} {m = m} s passes n) tail ends size p low high = by (cases_order (length c - suc (length c')) p) (λ least. good n (tail_further tail (tail_behind i c')) (ends_on ends) size p least high)
    where
      by : (length c - suc (length c') ≡ p) ⊎ ((length c - suc (length c') < p) ⊎ (p < length c - suc (length c'))) → (length c - length c' ≤ p → IsGood p) → IsGood p
      by (inl same) rest = subst IsGood same (live_good i c' m ns tail ends (marked_long n size) s passes)
      by (inr (inl behind)) rest = let below = tail_length tail in rest (omega (arith, behind, below))
      by (inr (inr before)) rest = absurd (omega arith)
  good {k = k} (turn {i = i} {w = w} {body = body} {j = j} {mb = mb} {mj = mj} {m = m} {last = last} o nests inside into past again n) tail ends size p low high =
      by (cases_order (length c - suc (length body)) p)
      (λ least most. good inside (tail_further tail (tail_behind i body)) (ends_on ends) size_end p least most)
      (λ least. good n tail_j (ends_on (ends_further (ends_on ends) (marked_ends inside))) size p least high)
    where
      size_j : length mj ≡ length j
      size_j = marked_long n size

      size_end : suc (length mj) ≡ suc (length j)
      size_end = ap suc size_j

      size_b : length mb ≡ length body
      size_b = marked_long inside size_end

      below : suc (length body) ≤ length c
      below = tail_length tail

      shorter : suc (length j) ≤ length body
      shorter = tail_length (tail_of_stretch (nests_stretch nests))

      tail_j : Tail c j
      tail_j = tail_further (tail_further (tail_further tail (tail_behind i body)) (tail_of_stretch (nests_stretch nests))) (tail_behind I.End j)

      in_body : (length c - suc (length j) ≡ p) ⊎ ((length c - suc (length j) < p) ⊎ (p < length c - suc (length j))) → length c - suc (length body) < p → (length c - length body ≤ p → p < length c - suc (length j) → IsGood p) → (length c - length j ≤ p → IsGood p) → IsGood p
      in_body (inl same) behind inner rest = subst IsGood same (end_good i w body j mb mj m last tail ends o nests size_b size_j (marked_ends inside) again)
      in_body (inr (inl past_end)) behind inner rest = rest (omega (arith, past_end, below, shorter))
      in_body (inr (inr before)) behind inner rest = inner (omega (arith, behind, below)) before

      by : (length c - suc (length body) ≡ p) ⊎ ((length c - suc (length body) < p) ⊎ (p < length c - suc (length body))) → (length c - length body ≤ p → p < length c - suc (length j) → IsGood p) → (length c - length j ≤ p → IsGood p) → IsGood p
      by (inl same) inner rest = subst IsGood same (opening_good i w body j mb mj m last tail ends o nests size_b size_j (marked_ends inside) into past)
      by (inr (inl behind)) inner rest = in_body (cases_order (length c - suc (length j)) p) behind inner rest
      by (inr (inr before)) inner rest = absurd (omega arith)

-- a code that has marks everywhere and begins with those of a call has registers that fit
pub marked_fits : (c : List Instr) (ms : List (Option Marks)) → length c ≤ 65535 → Marked c ms [] [] → at_label ms (length ms) ≡ Some (Some entry) → HasFit (at_positions c)
marked_fits c ms short marked first =
    let long : length ms ≡ length c = marked_long marked refl in
    let whole : Tail c c = record { front = []; joined = refl } in
    let start = label_at ms (length ms) (Some entry) None first in
    let zeroth : length ms - length ms ≡ 0 = omega arith in
    let good_at : (p : ℕ) (i : Instr) → slice_get (at_positions c) p ≡ Some i → IsGood c ms long short p =
    λ p i at. good c ms long short marked whole (ends_whole ms) refl p (omega arith) (within p i at) in
    record {
      list = ms;
      fits = record {
        start = ap (λ p. get_or ms p None) (sym zeroth) ∙ start.2;
        allows = λ p i m at is. (good_at p i at i m at is).0;
        arrives = λ p i m at is to k leads. (good_at p i at i m at is).1 to k leads;
      };
    }
  where
    within : (p : ℕ) (i : Instr) → slice_get (at_positions c) p ≡ Some i → p < length c - 0
    within p i at = let lt = slice_get_within (at_positions c) p i at in let size = length-map c (aimed (length c)) in omega (arith, lt, size)
