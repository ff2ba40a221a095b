use Rattle.std.proofs.Common.{◌≡◌, ◌<◌, ℕ, map, get_or, pos}
use Rattle.tl_store.proofs.calls.are_numbered.Given as goal

-- each of the first calls has its position as its number
abbrev pub invariant-loop-number : goal.invariant-loop-number
invariant-loop-number l = (n : ℕ) → n < l.number → get_or (map (λ r. r.number) l.calls) n (pos 0) ≡ pos n
