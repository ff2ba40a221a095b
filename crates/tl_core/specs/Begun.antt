-- A call that was just begun.
use Rattle.std.specs.Prelude.{◌≡◌, ℕ, List, [], ℤ}
use Rattle.tl_tree.specs.Records.{Records}
use Rattle.tl_instr.specs.Codes.{CodeValue, IsCode}
use Rattle.tl_verify.specs.Acceptable.{Acceptable}
use Rattle.tl_machine.specs.Alone.{alone}
use Rattle.tl_machine.specs.Call.{reply_so_far}
use Rattle.tl_machine.specs.BetweenSteps.{run_left}
use Rattle.tl_machine.specs.Turns.{TurnValue, IsTurn}

-- the arguments are kept, and the turn is that of a call of an accepted code with these arguments that has done nothing yet
pub record Begins (c : CodeValue) (parents : List ℕ) (given kept : List ℤ) (turn : TurnValue) : Type 0 where
  pub code : turn.code ≡ c
  pub shape : turn.parents ≡ parents
  pub valid : IsCode turn.code
  pub accepted : Acceptable turn.code.instrs
  pub args : kept ≡ given
  pub is_turn : IsTurn turn.code.instrs turn.parents turn.call
  pub left : (t : Records) → run_left turn.code.instrs turn.parents turn.call t ≡ alone turn.code.instrs turn.parents kept t
  pub steps : turn.call.steps ≡ 0
  pub reply : reply_so_far turn.call ≡ []
