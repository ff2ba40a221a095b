use Rattle.std.proofs.Common.{◌≡◌, ◌<◌, ℕ, Some, slice_get}
use Rattle.tl_procedures.specs.declared.request.Request.{Request}
use Rattle.tl_recover.specs.Redriven.{IsAsked}
use Rattle.tl_compare.proofs.calls.are_asked.Given as goal

-- the first requests are those of the first calls
abbrev pub invariant-loop-call : goal.invariant-loop-call
invariant-loop-call l = (n : ℕ) (r : Request) → n < l.call → slice_get l.requests n ≡ Some r → IsAsked l.core.seen n r
