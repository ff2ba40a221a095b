-- Ends of codes.
use Rattle.std.proofs.Common.{◌≡◌, ℕ, suc, ◌+◌, ◌-◌, ◌≤◌, List, [], ◌∷◌, ◌++◌, length, map, Some, refl, sym, ap, ◌∙◌, arith, append_assoc}
use Rattle.std.specs.Prelude.{slice_get}
use Rattle.std.proofs.lemmas.List.{length-append}
use Rattle.tl_instr.specs.declared.instr.Instr.{Instr}
use Rattle.tl_compiler.specs.Aiming.{aimed, at_positions}
use Rattle.tl_compiler.specs.Labels.{target_of}
use Rattle.tl_compiler.specs.Tails.{Tail}

pub tail_whole : (k : List Instr) → Tail k k
tail_whole k = record { front = []; joined = refl }

pub tail_further : {c k j : List Instr} → Tail c k → Tail k j → Tail c j
tail_further {c} {k} {j} t u = record {
  front = t.front ++ u.front;
  joined = t.joined ∙ ap (λ l. t.front ++ l) u.joined ∙ sym (append_assoc t.front u.front j);
}

pub tail_behind : (i : Instr) (k : List Instr) → Tail (i ∷ k) k
tail_behind i k = record { front = i ∷ []; joined = refl }

pub tail_of : {i : Instr} {k j : List Instr} → Tail k j → Tail (i ∷ k) j
tail_of {i} {k} {j} t = tail_further (tail_behind i k) t

pub tail_length : {c k : List Instr} → Tail c k → length k ≤ length c
tail_length {c} {k} t = let e = ap length t.joined ∙ length-append t.front k in omega (arith, e)

fetched : (f : Instr → Instr) (front : List Instr) (i : Instr) (k : List Instr) → slice_get (map f (front ++ i ∷ k)) (length front) ≡ Some (f i)
fetched f [] i k = refl
fetched f (x ∷ front) i k = fetched f front i k

pub fetch : {c : List Instr} (i : Instr) (k : List Instr) → Tail c (i ∷ k) → slice_get (at_positions c) (length c - suc (length k)) ≡ Some (aimed (length c) i)
fetch {c} i k t =
    let e : length c ≡ length t.front + suc (length k) = ap length t.joined ∙ length-append t.front (i ∷ k) in
    let at : length c - suc (length k) ≡ length t.front = omega (arith, e) in
    ap (λ p. slice_get (at_positions c) p) at
    ∙ ap (λ l. slice_get (map (aimed (length c)) l) (length t.front)) t.joined
    ∙ fetched (aimed (length c)) t.front i k

-- the position of a label that is a target
pub aimed_at : (n label : ℕ) → n ≤ 65535 → label ≤ n → n - target_of label ≡ n - label
aimed_at n label short le = omega arith
