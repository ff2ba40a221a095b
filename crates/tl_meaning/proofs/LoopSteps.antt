-- Entering a loop, going from turn to turn, and leaving it.
use Rattle.std.proofs.Common.{◌≡◌, ℕ, suc, ◌-◌, ◌<◌, ◌≤◌, List, [], ◌∷◌, length, refl, ap, ◌∙◌, arith}
use Rattle.tl_instr.specs.declared.instr.Instr.{Instr}
use Rattle.tl_instr.specs.declared.instr.Instr.TheVariants as I
use Rattle.tl_tree_locking.specs.declared.action.Action.TheVariants as did
use Rattle.tl_budget.specs.Loops.{Opens, kind}
use Rattle.tl_machine.specs.Runs.{State, Run, Then}
use Rattle.tl_machine.specs.Alone.{turn_count}
use Rattle.tl_machine.specs.Left.{Frame, left}
use Rattle.tl_machine.proofs.LeftLaws.{left_out, left_opens, left_skips, left_closes_last, left_closes_again}
use Rattle.tl_compiler.specs.Aiming.{aimed, at_positions}
use Rattle.tl_meaning.specs.Leading.{Leads, Runs, from_label, IsInside}
use Rattle.tl_compiler.specs.Tails.{Tail}
use Rattle.tl_compiler.proofs.TailLemmas.{tail_length, fetch}
use Rattle.tl_meaning.proofs.Steps.{onward, before, goes}
use Rattle.tl_compiler.proofs.Stretches.{Stretch, tail_of_stretch, loop_here}

-- the frame of a loop with this body, the code after its end, and the turns left
abbrev pub frame : List Instr → List Instr → List Instr → ℕ → Frame
frame c body k more = record { opening = length c - suc (length body); close = length c - suc (length k); more = more }

one_step : (from to : Run) → from ≡ Then did.Plain to → Leads from [] to
one_step from to e = record { acts = did.Plain ∷ []; tells = refl; runs = e }

behind_end : (n k l : ℕ) → suc k ≤ n → l ≤ k → n - suc k < n - l
behind_end n k l long le = omega arith

module _ {c : List Instr} (parents : List ℕ) (ready : Runs c) (fs : List Frame) (body k : List Instr) (ends : Stretch body (I.End ∷ k)) where
  -- a loop with at least one turn
  pub opens : (i : Instr) (w more : ℕ) (s : State) → Tail c (i ∷ body) → kind i ≡ Opens w → kind (aimed (length c) i) ≡ Opens w → IsInside c fs (length body) → turn_count (aimed (length c) i) w s.values ≡ suc more
      → Leads (from_label c parents fs (suc (length body)) s) [] (from_label c parents (frame c body k more ∷ fs) (length body) s)
  opens i w more s tail is is_aimed inside turns =
      let f = frame c body k more in
      one_step (from_label c parents fs (suc (length body)) s) (from_label c parents (f ∷ fs) (length body) s)
      (left_opens (at_positions c) parents (goes parents ready) (length c - suc (length body)) w s (aimed (length c) i) (record { opening = length c - suc (length body); close = length c - suc (length k); count = w })
      (fetch i body tail) is_aimed (loop_here i w body k tail is ends) fs more (before c fs (length body) (tail_length tail) inside) turns
      ∙ ap (λ p. Then did.Plain (left (at_positions c) parents (f ∷ fs) p s)) (onward (length c) (length body) (tail_length tail)))

  -- a loop without turns
  pub skips : (i : Instr) (w : ℕ) (s : State) → Tail c (i ∷ body) → kind i ≡ Opens w → kind (aimed (length c) i) ≡ Opens w → IsInside c fs (length body) → turn_count (aimed (length c) i) w s.values ≡ 0
      → Leads (from_label c parents fs (suc (length body)) s) [] (from_label c parents fs (length k) s)
  skips i w s tail is is_aimed inside turns =
      let long = tail_length tail in
      let short = tail_length (tail_of_stretch ends) in
      one_step (from_label c parents fs (suc (length body)) s) (from_label c parents fs (length k) s)
      (left_skips (at_positions c) parents (goes parents ready) (length c - suc (length body)) w s (aimed (length c) i) (record { opening = length c - suc (length body); close = length c - suc (length k); count = w })
      (fetch i body tail) is_aimed (loop_here i w body k tail is ends) fs (before c fs (length body) long inside) turns
      ∙ ap (λ p. Then did.Plain (left (at_positions c) parents fs p s)) (onward (length c) (length k) (omega (arith, long, short))))

  -- the end of a turn
  pub closes_last : (s : State) → suc (length k) ≤ length c → Leads (from_label c parents (frame c body k 0 ∷ fs) (suc (length k)) s) [] (from_label c parents fs (length k) s)
  closes_last s long =
      one_step (from_label c parents (frame c body k 0 ∷ fs) (suc (length k)) s) (from_label c parents fs (length k) s)
      (left_closes_last (at_positions c) parents (goes parents ready) (length c - suc (length body)) (length c - suc (length k)) fs s
      ∙ ap (λ p. Then did.Plain (left (at_positions c) parents fs p s)) (onward (length c) (length k) long))

  pub closes_again : (more : ℕ) (s : State) → suc (length body) ≤ length c → Leads (from_label c parents (frame c body k (suc more) ∷ fs) (suc (length k)) s) [] (from_label c parents (frame c body k more ∷ fs) (length body) s)
  closes_again more s long =
      one_step (from_label c parents (frame c body k (suc more) ∷ fs) (suc (length k)) s) (from_label c parents (frame c body k more ∷ fs) (length body) s)
      (left_closes_again (at_positions c) parents (goes parents ready) (length c - suc (length body)) (length c - suc (length k)) more fs s
      ∙ ap (λ p. Then did.Plain (left (at_positions c) parents (frame c body k more ∷ fs) p s)) (onward (length c) (length body) long))

  -- a label after the loop is outside it
  pub out_of : (more label : ℕ) (s : State) → suc (length k) ≤ length c → label ≤ length k → from_label c parents (frame c body k more ∷ fs) label s ≡ from_label c parents fs label s
  out_of more label s long le = left_out (at_positions c) parents (goes parents ready) (frame c body k more) fs (length c - label) s (behind_end (length c) (length k) label long le)
