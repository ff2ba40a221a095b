-- The states that reach a position by forward steps.
use Rattle.std.specs.Prelude.{◌≡◌, ℕ, ◌<◌, List, Some, slice_get}
use Rattle.tl_instr.specs.declared.instr.Instr.{Instr}
use Rattle.tl_verify.specs.declared.marks.Marks.{Marks}
use Rattle.tl_verify.specs.Marks.{entry, Leads}

-- Control may reach the position with these marks, starting at position 0 and going only to higher positions.
pub data Way (code : List Instr) : ℕ → Marks → Type 0 where
  start : Way code 0 entry
  onward : {p : ℕ} {m : Marks} {q : ℕ} {k : Marks} → Way code p m → (i : Instr) → slice_get code p ≡ Some i → Leads code i p m q k → p < q → Way code q k
