-- Freeing what isn't kept.
use Rattle.std.proofs.Common.{◌≡◌, ◌≢◌, ℕ, zero, suc, ◌<◌, ◌≤◌, List, [], ◌∷◌, Option, Some, None, false, refl, ap, ◌∙◌, arith, inl, inr, ◌⊎◌}
use Rattle.std.specs.Prelude.{ℤ, get_or, slice_set}
use Rattle.std.proofs.lemmas.List.{get_or-replicate, get_or-set_other}
use Rattle.std.proofs.Math.Nat.{eq-or-lt_of_le}
use Rattle.tl_instr.specs.declared.operand.TheConstants.{NODE_REGISTERS}
use Rattle.tl_tree.specs.Records.{Records}
use Rattle.tl_machine.specs.Runs.{Held, State}
use Rattle.tl_machine.specs.Alone.{node, start}
use Rattle.tl_lowering.specs.declared.program.Statement.{Statement}
use Rattle.tl_lowering.specs.Sets.{none_held}
use Rattle.tl_meaning.specs.Meaning.{On, Done, and_then, free, free_by, leave_below, is_on, behaviour, call}

pub cleared : (l : List (Option Held)) (n : ℕ) → get_or (slice_set l n None) n None ≡ None
cleared [] n = refl
cleared (x ∷ xs) zero = refl
cleared (x ∷ xs) (suc n) = cleared xs n

pub freed : (n : ℕ) (s : State) → node (free n s).state n ≡ None
freed n s = by (node s n) refl
  where
    by : (o : Option Held) → node s n ≡ o → node (free_by o n s).state n ≡ None
    by None e = e
    by (Some h) e = cleared s.nodes n

pub others : (k n : ℕ) (s : State) → n ≢ k → node (free k s).state n ≡ node s n
others k n s ne = by (node s k)
  where
    by : (o : Option Held) → node (free_by o k s).state n ≡ node s n
    by None = refl
    by (Some h) = get_or-set_other s.nodes k n None None ne

pub goes_on : (n : ℕ) (s : State) → (free n s).outcome ≡ On
goes_on n s = by (node s n)
  where
    by : (o : Option Held) → (free_by o n s).outcome ≡ On
    by None = refl
    by (Some h) = refl

pub then_on : (d : Done) (f : State → Done) → d.outcome ≡ On → (and_then d f).state ≡ (f d.state).state
then_on d f e = rw e refl

one_more : (m : ℕ) (s : State) → m < NODE_REGISTERS → (leave_below (suc m) none_held s).state ≡ (leave_below m none_held (free m s).state).state
one_more m s lt = rw (get_or-replicate NODE_REGISTERS m false false lt) (then_on (free m s) (leave_below m none_held) (goes_on m s))

above : (m : ℕ) (s : State) (n : ℕ) → m ≤ NODE_REGISTERS → m ≤ n → node (leave_below m none_held s).state n ≡ node s n
above zero s n le below = refl
above (suc m) s n le below =
    ap (λ t. node t n) (one_more m s (omega arith)) ∙ above m (free m s).state n (omega arith) (omega arith) ∙ others m n s (λ e. absurd (omega arith))

below : (m : ℕ) (s : State) (n : ℕ) → m ≤ NODE_REGISTERS → n < m → node (leave_below m none_held s).state n ≡ None
below zero s n le lt = absurd (omega arith)
below (suc m) s n le lt =
    ap (λ t. node t n) (one_more m s (omega arith)) ∙ by (eq-or-lt_of_le (omega arith)) (λ h. below m (free m s).state n (omega arith) h)
  where
    by : (n ≡ m) ⊎ (n < m) → (n < m → node (leave_below m none_held (free m s).state).state n ≡ None)
        → node (leave_below m none_held (free m s).state).state n ≡ None
    by (inl e) further = above m (free m s).state n (omega arith) (omega arith) ∙ rw e (freed m s)
    by (inr h) further = further h

pub left_empty : (parents : List ℕ) (body : Statement) (args : List ℤ) (t : Records) (n : ℕ) → n < NODE_REGISTERS
    → is_on (behaviour parents body (start args t)).outcome ≡ false → node (call parents body args t).state n ≡ None
left_empty parents body args t n lt e = rw e (below NODE_REGISTERS (behaviour parents body (start args t)).state n (omega arith) lt)
