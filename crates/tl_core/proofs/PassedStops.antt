-- A call that was led on and then did the action at its stop.
use Rattle.std.proofs.Common.{◌≡◌, ℕ, zero, suc, List, [], ◌∷◌, ◌++◌, length, refl, sym, ap, ◌∙◌, Some, Ok}
use Rattle.std.specs.Prelude.{Result, slice_set}
use Rattle.tl_tree_locking.specs.declared.action.Action.{Action}
use Rattle.tl_machine.specs.Turns.{TurnValue, LentValue, segment_of, with_call}
use Rattle.tl_machine.specs.declared.want.Stop.{Stop}
use Rattle.tl_core.specs.declared.fault.CoreFault.{CoreFault}
use Rattle.tl_core.specs.declared.stepped.Stepped.{Stepped}
use Rattle.tl_core.specs.declared.stepped.Stepped.TheVariants.{Moved}
use Rattle.tl_core.specs.Cores.{CoreState, CoreValue, kept_turn, world_of}
use Rattle.tl_core.specs.Entries.{step_answer, after_step}
use Rattle.tl_core.specs.Followed.{Goes, NextEndsStop, IsInTheWay, IsLed, HasGone}
use Rattle.tl_core.proofs.FollowAnswers.{has_gone, still_free, gone_parents}

length-slice_set : {X : Type 0} → (xs : List X) (i : ℕ) (x : X) → length (slice_set xs i x) ≡ length xs
length-slice_set [] i x = refl
length-slice_set (y ∷ ys) zero x = refl
length-slice_set (y ∷ ys) (suc i) x = ap suc (length-slice_set ys i x)

-- steps don't change the number of calls
goes_counted : (v w : CoreValue) (c : ℕ) (actions : List Action) → Goes v c actions w → length w.calls ≡ length v.calls
goes_counted v w c [] goes = ap (λ u. length u.calls) (sym goes)
goes_counted v w c (a ∷ actions) goes = goes_counted (after_step v c (Ok (Moved a))) w c actions goes.1 ∙ length-slice_set v.calls c _

-- The call's turn was t before. In `there` it has the state to which the lent call was led, and stops. No call holds the
-- stop's node, so the action at the stop was done.
pub record PassesStop (before there after : CoreState) (c : ℕ) (lent : LentValue) (t : TurnValue) (s : Stop) : Type 0 where
  pub kept : kept_turn there c ≡ Some (with_call t lent.to)
  pub next : NextEndsStop there.seen c s
  pub none : (x d : ℕ) → IsInTheWay before.seen s x d → ⊥
  pub free : (x d : ℕ) → IsInTheWay there.seen s x d → ⊥
  pub gone : HasGone before c (segment_of t lent.to s) after
  pub parents : after.seen.parents ≡ before.seen.parents
  pub counted : length after.seen.calls ≡ length before.seen.calls

pub passes_stop : (before there after : CoreState) (c : ℕ) (lent : LentValue) (t : TurnValue) (s : Stop)
    → IsLed before c there → there.seen.past ≡ before.seen.past → kept_turn there c ≡ Some (with_call t lent.to) → NextEndsStop there.seen c s
    → ((x d : ℕ) → IsInTheWay before.seen s x d → ⊥)
    → (r : Result Stepped CoreFault) → r ≡ step_answer (world_of there.seen) c → after.seen ≡ after_step there.seen c r
    → PassesStop before there after c lent t s
passes_stop before there after c lent t s led past kept next none r answer then =
    let free = still_free before.seen there.seen s past none in
    let gone : HasGone before c (segment_of t lent.to s) after = has_gone before there after c (segment_of t lent.to s) led next none free r answer then in
    record {
      kept = kept;
      next = next;
      none = none;
      free = free;
      gone = gone;
      parents = gone_parents before after c (segment_of t lent.to s) gone;
      counted = goes_counted before.seen after.seen c (gone.local ++ gone.last ∷ []) gone.goes;
    }
