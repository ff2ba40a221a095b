-- The jumps of a code go forward, stay within it, and enter no loop.
use Rattle.std.proofs.Common.{◌≡◌, ◌≢◌, ◌⊎◌, inl, inr, ℕ, zero, suc, ◌-◌, ◌<◌, ◌≤◌, List, [], ◌∷◌, length, map, Some, None, refl, sym, ◌∙◌, ap, subst, arith}
use Rattle.std.specs.Prelude.{slice_get, option_map}
use Rattle.std.proofs.lemmas.List.{length-map}
use Rattle.std.proofs.lemmas.Bool.{cases_order}
use Rattle.tl_instr.specs.declared.instr.Instr.{Instr}
use Rattle.tl_instr.specs.declared.instr.Instr.TheVariants as I
use Rattle.tl_instr.specs.Instructions.{target}
use Rattle.tl_budget.specs.Loops.{Kind, Opens, Closes, Returns, Acts, kind, kind_at, Loop, loop_at, loop_by, IsAround}
use Rattle.tl_compiler.specs.Labels.{target_of}
use Rattle.tl_compiler.specs.Aiming.{aimed, at_positions}
use Rattle.tl_compiler.specs.Tails.{Tail}
use Rattle.tl_compiler.proofs.TailLemmas.{fetch, tail_further, tail_behind, tail_length, aimed_at}
use Rattle.tl_compiler.proofs.Stretches.{Stretch, tail_of_stretch, same_kind, loop_here}
use Rattle.tl_compiler.proofs.Nestings.{Nests, here, one, turn, nests_stretch}
use Rattle.tl_compiler.proofs.Targets.{Leaves, stays, out, Reaches, Jumps, none, straight, jump}

-- no loop opens at an instruction of another kind
opens_none : (code : List Instr) (o : ℕ) (l : Loop) (k : Kind) → loop_at code o ≡ Some l → kind_at code o ≡ Some k → ((w : ℕ) → k ≢ Opens w) → ⊥
unfolding loop_at
opens_none code o l (Opens w) e at other = other w refl
opens_none code o l Closes e at other = let h : loop_by code o (kind_at code o) ≡ None = ap (loop_by code o) at in cc
opens_none code o l Returns e at other = let h : loop_by code o (kind_at code o) ≡ None = ap (loop_by code o) at in cc
opens_none code o l Acts e at other = let h : loop_by code o (kind_at code o) ≡ None = ap (loop_by code o) at in cc

kind_there : {whole : List Instr} (i : Instr) (c : List Instr) (k : Kind) → Tail whole (i ∷ c) → kind i ≡ k → kind_at (at_positions whole) (length whole - suc (length c)) ≡ Some k
kind_there {whole} i c k tail e = ap (option_map kind) (fetch i c tail) ∙ ap Some (same_kind (length whole) i ∙ e)

-- A loop that opens before k closes before k.
pub opening_closes : {whole c k : List Instr} {d : ℕ} → Tail whole c → Nests d c k → (o : ℕ) (l : Loop) → loop_at (at_positions whole) o ≡ Some l → length whole - length c ≤ o → o < length whole - length k
    → l.close < length whole - length k
opening_closes tail here o l e low high = absurd (omega arith)
opening_closes {whole = whole} {k = k} tail (one {i = i} {c = c} s n) o l e low high =
    by (cases_order (length whole - suc (length c)) o) (λ t least. opening_closes t n o l e least high)
  where
    by : (length whole - suc (length c) ≡ o) ⊎ ((length whole - suc (length c) < o) ⊎ (o < length whole - suc (length c))) → (Tail whole c → length whole - length c ≤ o → l.close < length whole - length k)
        → l.close < length whole - length k
    by (inl same) rest = absurd (kinds s)
      where
        at : (q : Kind) → kind i ≡ q → kind_at (at_positions whole) o ≡ Some q
        at q f = subst (λ p. kind_at (at_positions whole) p ≡ Some q) same (kind_there i c q tail f)

        kinds : (kind i ≡ Acts) ⊎ (kind i ≡ Returns) → ⊥
        kinds (inl f) = opens_none (at_positions whole) o l Acts e (at Acts f) (λ w g. cc)
        kinds (inr f) = opens_none (at_positions whole) o l Returns e (at Returns f) (λ w g. cc)
    by (inr (inl behind)) rest = let long = tail_length tail in rest (tail_further tail (tail_behind i c)) (omega (arith, long))
    by (inr (inr before)) rest = absurd (omega arith)
opening_closes {whole = whole} {k = k} tail (turn {w = w} {i = i} {body = body} {j = j} f turns inside n) o l e low high =
    by (cases_order (length whole - suc (length body)) o) (λ t least. opening_closes t n o l e least high) (λ t least most. opening_closes t inside o l e least most)
  where
    long : suc (length body) ≤ length whole
    long = tail_length tail

    ends : Stretch body (I.End ∷ j)
    ends = nests_stretch inside

    shorter : suc (length j) ≤ length body
    shorter = tail_length (tail_of_stretch ends)

    least : length k ≤ length j
    least = tail_length (tail_of_stretch (nests_stretch n))

    tail_body : Tail whole body
    tail_body = tail_further tail (tail_behind i body)

    tail_end : Tail whole (I.End ∷ j)
    tail_end = tail_further tail_body (tail_of_stretch ends)

    in_body : (length whole - suc (length j) ≡ o) ⊎ ((length whole - suc (length j) < o) ⊎ (o < length whole - suc (length j))) → (Tail whole j → length whole - length j ≤ o → l.close < length whole - length k) → (Tail whole body → length whole - length body ≤ o → o < length whole - suc (length j) → l.close < length whole - suc (length j)) → length whole - suc (length body) < o → l.close < length whole - length k
    in_body (inl same) rest inner behind =
        absurd (opens_none (at_positions whole) o l Closes e (subst (λ p. kind_at (at_positions whole) p ≡ Some Closes) same (kind_there I.End j Closes tail_end refl)) (λ w g. cc))
    in_body (inr (inl past)) rest inner behind = rest (tail_further tail_end (tail_behind I.End j)) (omega (arith, long, shorter))
    in_body (inr (inr before)) rest inner behind =
        let less = inner tail_body (omega (arith, long)) before in
        omega (arith, less, long, shorter, least)

    by : (length whole - suc (length body) ≡ o) ⊎ ((length whole - suc (length body) < o) ⊎ (o < length whole - suc (length body))) → (Tail whole j → length whole - length j ≤ o → l.close < length whole - length k) → (Tail whole body → length whole - length body ≤ o → o < length whole - suc (length j) → l.close < length whole - suc (length j)) → l.close < length whole - length k
    by (inl same) rest inner =
        let made : Loop = record { opening = length whole - suc (length body); close = length whole - suc (length j); count = w } in
        let h : Some l ≡ Some made = sym e ∙ ap (loop_at (at_positions whole)) (sym same) ∙ loop_here i w body j tail f ends in
        let g : l ≡ made = cc in
        let close : l.close ≡ length whole - suc (length j) = ap (λ (x : Loop). x.close) g in
        omega (arith, close, long, shorter, least)
    by (inr (inl behind)) rest inner = in_body (cases_order (length whole - suc (length j)) o) rest inner behind
    by (inr (inr before)) rest inner = absurd (omega arith)

-- a position to which a jump may go is after the jump
pub left : {a b : List Instr} → Leaves a b → Tail a b
left (stays m) = tail_of_stretch (nests_stretch m)
left (out {j = q} m r) = tail_further (tail_of_stretch (nests_stretch m)) (tail_further (tail_behind I.End q) (left r))

-- so no loop that opens after a jump contains the jump's target
pub enters_none : {whole c k : List Instr} → Tail whole c → Leaves c k → (o : ℕ) (l : Loop) → loop_at (at_positions whole) o ≡ Some l → length whole - length c ≤ o → o < length whole - length k
    → length whole - length k ≤ l.close → ⊥
enters_none tail (stays n) o l e low high around = let less = opening_closes tail n o l e low high in omega arith
enters_none {whole = whole} {c = c} {k = k} tail (out {j = j} n rest) o l e low high around = by (cases_order (length whole - suc (length j)) o) (λ t least. enters_none t rest o l e least high around)
  where
    tail_end : Tail whole (I.End ∷ j)
    tail_end = tail_further tail (tail_of_stretch (nests_stretch n))

    long : suc (length j) ≤ length whole
    long = tail_length tail_end

    shorter : length k ≤ length j
    shorter = tail_length (left rest)

    by : (length whole - suc (length j) ≡ o) ⊎ ((length whole - suc (length j) < o) ⊎ (o < length whole - suc (length j))) → (Tail whole j → length whole - length j ≤ o → ⊥) → ⊥
    by (inl same) more = opens_none (at_positions whole) o l Closes e (subst (λ p. kind_at (at_positions whole) p ≡ Some Closes) same (kind_there I.End j Closes tail_end refl)) (λ w g. cc)
    by (inr (inl behind)) more = more (tail_further tail_end (tail_behind I.End j)) (omega (arith, long))
    by (inr (inr before)) more =
        let less = opening_closes tail n o l e low before in
        omega (arith, less, long, shorter)

-- ---- from labels to positions

pub target_aimed : (n : ℕ) (i : Instr) (l : ℕ) → target i ≡ Some l → target (aimed n i) ≡ Some (n - l)
target_aimed n (I.Add to left right l') l e = let h : l' ≡ l = cc in ap (λ x. Some (n - x)) h
target_aimed n (I.Subtract to left right l') l e = let h : l' ≡ l = cc in ap (λ x. Some (n - x)) h
target_aimed n (I.Multiply to left right l') l e = let h : l' ≡ l = cc in ap (λ x. Some (n - x)) h
target_aimed n (I.Divide to left right l') l e = let h : l' ≡ l = cc in ap (λ x. Some (n - x)) h
target_aimed n (I.Jump l') l e = let h : l' ≡ l = cc in ap (λ x. Some (n - x)) h
target_aimed n (I.JumpIfLess left right l') l e = let h : l' ≡ l = cc in ap (λ x. Some (n - x)) h
target_aimed n (I.JumpIfEqual left right l') l e = let h : l' ≡ l = cc in ap (λ x. Some (n - x)) h
target_aimed n (I.First to number l') l e = let h : l' ≡ l = cc in ap (λ x. Some (n - x)) h
target_aimed n (I.Child to parent number l') l e = let h : l' ≡ l = cc in ap (λ x. Some (n - x)) h
target_aimed n i l e = cc

pub target_none : (n : ℕ) (i : Instr) → target i ≡ None → target (aimed n i) ≡ None
target_none n (I.Add to left right l') e = cc
target_none n (I.Subtract to left right l') e = cc
target_none n (I.Multiply to left right l') e = cc
target_none n (I.Divide to left right l') e = cc
target_none n (I.Jump l') e = cc
target_none n (I.JumpIfLess left right l') e = cc
target_none n (I.JumpIfEqual left right l') e = cc
target_none n (I.First to number l') e = cc
target_none n (I.Child to parent number l') e = cc
target_none n i e = e

acts_with_target : (i : Instr) (l : ℕ) → target i ≡ Some l → kind i ≡ Acts
acts_with_target (I.Repeat w) l e = cc
acts_with_target (I.RepeatBy t w) l e = cc
acts_with_target I.End l e = cc
acts_with_target I.Return l e = cc
acts_with_target i l e = refl

-- an instruction with a target: the instruction, the code after it, and its label
record Jumped (whole : List Instr) (n p l : ℕ) : Type 0 where
  instr : Instr
  rest : List Instr
  label : ℕ
  tail : Tail whole (instr ∷ rest)
  there : length whole - suc (length rest) ≡ p
  is : n - target_of label ≡ l
  jumps : kind instr ≡ Acts
  reaches : Reaches rest label

-- the instruction at a position of the code, and the code after it
jumped : {whole c j : List Instr} → Jumps c j → j ≡ [] → Tail whole c → (p l : ℕ) (i : Instr) → length whole - length c ≤ p → slice_get (map (aimed (length whole)) c) (p - (length whole - length c)) ≡ Some i → target i ≡ Some l
    → Jumped whole (length whole) p l
jumped {whole = whole} none e tail p l i low at is = let none_there = ap (λ c. slice_get (map (aimed (length whole)) c) (p - (length whole - length c))) e in cc
jumped {whole = whole} (straight {i = j} {c = c} e js) nil tail p l i low at is = by (p - (length whole - suc (length c))) refl at (λ t least found. jumped js nil t p l i least found is)
  where
    long : suc (length c) ≤ length whole
    long = tail_length tail

    by : (q : ℕ) → p - (length whole - suc (length c)) ≡ q → slice_get (map (aimed (length whole)) (j ∷ c)) q ≡ Some i
        → (Tail whole c → length whole - length c ≤ p → slice_get (map (aimed (length whole)) c) (p - (length whole - length c)) ≡ Some i → Jumped whole (length whole) p l) → Jumped whole (length whole) p l
    by zero f g more = let same : aimed (length whole) j ≡ i = cc in let h = target_none (length whole) j e in let k = ap target same in cc
    by (suc q) f g more =
        let there : p - (length whole - length c) ≡ q = omega (arith, long, f) in
        more (tail_further tail (tail_behind j c)) (omega (arith, long, f)) (ap (slice_get (map (aimed (length whole)) c)) there ∙ g)
jumped {whole = whole} (jump {i = j} {c = c} {l = label} e r js) nil tail p l i low at is = by (p - (length whole - suc (length c))) refl at (λ t least found. jumped js nil t p l i least found is)
  where
    long : suc (length c) ≤ length whole
    long = tail_length tail

    by : (q : ℕ) → p - (length whole - suc (length c)) ≡ q → slice_get (map (aimed (length whole)) (j ∷ c)) q ≡ Some i
        → (Tail whole c → length whole - length c ≤ p → slice_get (map (aimed (length whole)) c) (p - (length whole - length c)) ≡ Some i → Jumped whole (length whole) p l) → Jumped whole (length whole) p l
    by zero f g more =
        let same : aimed (length whole) j ≡ i = cc in
        let h : Some (length whole - target_of label) ≡ Some l = sym (target_aimed (length whole) j (target_of label) e) ∙ ap target same ∙ is in
        record { instr = j; rest = c; label = label; tail = tail; there = omega (arith, long, f); is = cc; jumps = acts_with_target j (target_of label) e; reaches = r }
    by (suc q) f g more =
        let there : p - (length whole - length c) ≡ q = omega (arith, long, f) in
        more (tail_further tail (tail_behind j c)) (omega (arith, long, f)) (ap (slice_get (map (aimed (length whole)) c)) there ∙ g)

-- what `Acceptable` requires of targets
pub record AreTargets (code : List Instr) : Type 0 where
  pub ahead : (p l : ℕ) (i : Instr) → slice_get code p ≡ Some i → target i ≡ Some l → p < l
  pub inside : (p l : ℕ) (i : Instr) → slice_get code p ≡ Some i → target i ≡ Some l → l < length code
  pub into_none : (p l : ℕ) (i : Instr) → slice_get code p ≡ Some i → target i ≡ Some l → (o : ℕ) (k : Loop) → IsAround code o k l → IsAround code o k p

module _ (c : List Instr) (short : length c ≤ 65535) (js : Jumps c []) where
  whole_tail : Tail c c
  whole_tail = record { front = []; joined = refl }

  found : (p l : ℕ) (i : Instr) → slice_get (at_positions c) p ≡ Some i → target i ≡ Some l → Jumped c (length c) p l
  found p l i at is = let e : p - (length c - length c) ≡ p = omega arith in jumped js refl whole_tail p l i (omega arith) (ap (slice_get (at_positions c)) e ∙ at) is

  label_within : (p l : ℕ) (j : Jumped c (length c) p l) → (j.label ≤ length j.rest) × (l ≡ length c - j.label) × (suc (length j.rest) ≤ length c)
  label_within p l j =
      let long = tail_length j.tail in
      let le : length (j.reaches).end ≤ length j.rest = tail_length (left (j.reaches).leaves) in
      let same = (j.reaches).long in
      let within : j.label ≤ length c = omega (arith, long, le, same) in
      let at = aimed_at (length c) j.label short within in
      let is = j.is in
      (omega (arith, le, same), sym is ∙ at, long)

  pub are_targets : AreTargets (at_positions c)
  are_targets = record {
    ahead = λ p l i at is.
        let j = found p l i at is in
        let h = label_within p l j in
        let a = h.0 in let b = h.1 in let d = h.2 in let t = j.there in
        omega (arith, a, b, d, t);
    inside = λ p l i at is.
        let j = found p l i at is in
        let h = label_within p l j in
        let b = h.1 in let d = h.2 in let s = (j.reaches).some in let a = h.0 in let size = length-map c (aimed (length c)) in
        omega (arith, a, b, d, s, size);
    into_none = λ p l i at is o k around.
        let j = found p l i at is in
        let h = label_within p l j in
        let a = h.0 in let b = h.1 in let d = h.2 in let t = j.there in
        let after = around.after in let before = around.before in
        let first : o < p = less o k j around h in
        record { there = around.there; after = first; before = omega (arith, a, b, d, t, before) };
  }
    where
      less : {p l : ℕ} (o : ℕ) (k : Loop) (j : Jumped c (length c) p l) → IsAround (at_positions c) o k l → (j.label ≤ length j.rest) × (l ≡ length c - j.label) × (suc (length j.rest) ≤ length c) → o < p
      less {p} {l} o k j around h = by (cases_order o p)
        where
          by : (o ≡ p) ⊎ ((o < p) ⊎ (p < o)) → o < p
          by (inl same) =
              let at : kind_at (at_positions c) o ≡ Some Acts = subst (λ q. kind_at (at_positions c) q ≡ Some Acts) (j.there ∙ sym same) (kind_there j.instr j.rest Acts j.tail j.jumps) in
              absurd (opens_none (at_positions c) o k Acts around.there at (λ w g. cc))
          by (inr (inl lt)) = lt
          by (inr (inr behind)) =
              let t = j.there in
              let b = h.1 in let d = h.2 in
              let e = (j.reaches).long in
              let after = around.after in let before = around.before in
              absurd (enters_none (tail_further j.tail (tail_behind j.instr j.rest)) (j.reaches).leaves o k around.there (omega (arith, t, d, behind)) (omega (arith, b, e, after)) (omega (arith, b, e, before)))
