-- One instruction after another.
use Rattle.std.proofs.Common.{◌≡◌, ℕ, suc, ◌+◌, ◌-◌, ◌<◌, ◌≤◌, List, [], ◌∷◌, ◌++◌, length, refl, sym, ap, ◌∙◌, subst, arith}
use Rattle.std.proofs.lemmas.List.{length-map}
use Rattle.tl_instr.specs.declared.instr.Instr.{Instr}
use Rattle.tl_instr.specs.declared.instr.Instr.TheVariants as I
use Rattle.tl_instr.specs.Instructions.{InRange}
use Rattle.tl_tree_locking.specs.declared.action.Action.{Action}
use Rattle.tl_tree_locking.specs.declared.action.Action.TheVariants as did
use Rattle.tl_budget.specs.Loops.{Acts, kind}
use Rattle.tl_machine.specs.Runs.{State, Run, Then, Ended}
use Rattle.tl_machine.specs.Alone.{Step, effect}
use Rattle.tl_machine.specs.Left.{Frame, left}
use Rattle.tl_machine.proofs.RunLaws.{GoesOn}
use Rattle.tl_machine.proofs.LeftLaws.{Before, left_acts, left_returns}
use Rattle.tl_machine.proofs.LeftFrames.{targets_of, goes_on}
use Rattle.tl_compiler.specs.Aiming.{aimed, at_positions}
use Rattle.tl_compiler.specs.Labels.{target_of}
use Rattle.tl_meaning.specs.Told.{told}
use Rattle.tl_meaning.specs.Leading.{with_actions, Leads, Runs, from_label, IsInside}
use Rattle.tl_compiler.specs.Tails.{Tail}
use Rattle.tl_compiler.proofs.TailLemmas.{tail_length, fetch, aimed_at}

-- ---- actions

pub told_joined : (a b : List Action) → told (a ++ b) ≡ told a ++ told b
told_joined [] b = refl
told_joined (did.Plain ∷ a) b = told_joined a b
told_joined (did.Read x f v ∷ a) b = told_joined a b
told_joined (did.End ∷ a) b = told_joined a b
told_joined (did.Lock x r ∷ a) b = ap (λ l. did.Lock x r ∷ l) (told_joined a b)
told_joined (did.Write x f v ∷ a) b = ap (λ l. did.Write x f v ∷ l) (told_joined a b)
told_joined (did.Free x r ∷ a) b = ap (λ l. did.Free x r ∷ l) (told_joined a b)
told_joined (did.Emit v ∷ a) b = ap (λ l. did.Emit v ∷ l) (told_joined a b)

actions_joined : (a b : List Action) (run : Run) → with_actions (a ++ b) run ≡ with_actions a (with_actions b run)
actions_joined [] b run = refl
actions_joined (x ∷ a) b run = ap (Then x) (actions_joined a b run)

pub stays : (run : Run) → Leads run [] run
stays run = record { acts = []; tells = refl; runs = refl }

pub and_on : {a b c : Run} {x y : List Action} → Leads a x b → Leads b y c → Leads a (x ++ y) c
and_on {a} {b} {c} {x} {y} first second = record {
  acts = first.acts ++ second.acts;
  tells = told_joined first.acts second.acts ∙ ap (λ l. l ++ told second.acts) first.tells ∙ ap (λ l. x ++ l) second.tells;
  runs = first.runs ∙ ap (with_actions first.acts) second.runs ∙ sym (actions_joined first.acts second.acts c);
}

-- ---- places

before_end : (n k : ℕ) → suc k ≤ n → n - suc k < n
before_end n k le = omega arith

pub onward : (n k : ℕ) → suc k ≤ n → n - suc k + 1 ≡ n - k
onward n k le = omega arith

pub further_in : (c : List Instr) (fs : List Frame) (l m : ℕ) → l ≤ m → IsInside c fs l → IsInside c fs m
further_in c [] l m le inside = tt
further_in c (f ∷ outer) l m le inside = omega arith

pub before : (c : List Instr) (fs : List Frame) (k : ℕ) → suc k ≤ length c → IsInside c fs k → Before (at_positions c) (length c - suc k) fs
before c [] k le inside = rw (length-map c (aimed (length c))) (before_end (length c) k le)
before c (f ∷ outer) k le inside = let e = onward (length c) k le in omega (arith, e)

module _ {c : List Instr} (parents : List ℕ) (ready : Runs c) where
  pub goes : GoesOn (at_positions c) parents
  goes = goes_on (at_positions c) parents (targets_of (at_positions c) ready.accepted)

  pub in_range : (i : Instr) (k : List Instr) → Tail c (i ∷ k) → InRange (aimed (length c) i)
  in_range i k t = ready.ranges (length c - suc (length k)) (aimed (length c) i) (fetch i k t)

  -- an instruction that doesn't open or close a loop or end the call
  pub acts : (fs : List Frame) (i : Instr) (k : List Instr) (s : State) (e : Step) → Tail c (i ∷ k) → IsInside c fs (length k) → kind (aimed (length c) i) ≡ Acts
      → effect parents (aimed (length c) i) (length c - suc (length k)) s ≡ e
      → Leads (from_label c parents fs (suc (length k)) s) (told (e.act ∷ [])) (left (at_positions c) parents fs e.to e.state)
  acts fs i k s e t inside is by = record {
    acts = e.act ∷ [];
    tells = refl;
    runs = left_acts (at_positions c) parents goes fs (length c - suc (length k)) s (aimed (length c) i) (before c fs (length k) (tail_length t) inside) (fetch i k t) is
        ∙ ap (λ (e : Step). Then e.act (left (at_positions c) parents fs e.to e.state)) by;
  }

  -- an instruction after which control goes to the next
  pub goes_to_next : (fs : List Frame) (i : Instr) (k : List Instr) (s u : State) (a : Action) → Tail c (i ∷ k) → IsInside c fs (length k) → kind (aimed (length c) i) ≡ Acts
      → effect parents (aimed (length c) i) (length c - suc (length k)) s ≡ record { act = a; to = length c - suc (length k) + 1; state = u }
      → Leads (from_label c parents fs (suc (length k)) s) (told (a ∷ [])) (from_label c parents fs (length k) u)
  goes_to_next fs i k s u a t inside is by =
      let step : Step = record { act = a; to = length c - suc (length k) + 1; state = u } in
      subst (λ p. Leads (from_label c parents fs (suc (length k)) s) (told (a ∷ [])) (left (at_positions c) parents fs p u)) (onward (length c) (length k) (tail_length t))
      (acts fs i k s step t inside is by)

  -- an instruction after which control goes to a label
  pub goes_to_label : (fs : List Frame) (i : Instr) (k : List Instr) (s u : State) (a : Action) (label : ℕ) → Tail c (i ∷ k) → IsInside c fs (length k) → kind (aimed (length c) i) ≡ Acts
      → label ≤ length k
      → effect parents (aimed (length c) i) (length c - suc (length k)) s ≡ record { act = a; to = length c - target_of label; state = u }
      → Leads (from_label c parents fs (suc (length k)) s) (told (a ∷ [])) (from_label c parents fs label u)
  goes_to_label fs i k s u a label t inside is le by =
      let step : Step = record { act = a; to = length c - target_of label; state = u } in
      let long = tail_length t in
      subst (λ p. Leads (from_label c parents fs (suc (length k)) s) (told (a ∷ [])) (left (at_positions c) parents fs p u)) (aimed_at (length c) label ready.short (omega arith))
      (acts fs i k s step t inside is by)

  -- the end of the call
  pub returns : (fs : List Frame) (k : List Instr) (s : State) → Tail c (I.Return ∷ k) → IsInside c fs (length k) → Leads (from_label c parents fs (suc (length k)) s) [] (Ended s)
  returns fs k s t inside = record {
    acts = did.End ∷ [];
    tells = refl;
    runs = left_returns (at_positions c) parents goes fs (length c - suc (length k)) s I.Return (before c fs (length k) (tail_length t) inside) (fetch I.Return k t) refl;
  }
