-- Worked examples of loops, weights and bounds, by computation.
use Rattle.std.proofs.Common.{◌≡◌, ℕ, pos, List, [], ◌∷◌, Some, None, refl}
use Rattle.tl_instr.specs.declared.instr.Instr.{Instr}
use Rattle.tl_instr.specs.declared.instr.Instr.TheVariants.{Set, Repeat, End, First, Child, Move, Release, Get, Emit, Return}
use Rattle.tl_budget.specs.Costs.{weight_from}
use Rattle.tl_budget.specs.Findings.{open_at}
use Rattle.tl_budget.specs.Loops.{Loop, Closes, kind_at, loop_at, around, weight, budget, lock_bound, emit_bound}

abbrev turning : ℕ → ℕ → ℕ → Loop
turning opening close count = record { opening = opening; close = close; count = count }

-- first n0 v0 else 9; rep 12; child n1 n0 v1 else 6; rel n0; move n0 n1; end; get v2 n0 0; emit v2; rel n0; ret
abbrev walk : List Instr
walk =
    First 0 0 9 ∷ Repeat 12 ∷ Child 1 0 1 6 ∷ Release 0 ∷ Move 0 1 ∷ End ∷ Get 2 0 0 ∷ Emit 2 ∷ Release 0 ∷ Return ∷ []

walk_loop : loop_at walk 1 ≡ Some (turning 1 5 12)
unfolding loop_at
walk_loop = refl

-- a loop's opening isn't in its body, but its end is
walk_around_rep : around walk 1 ≡ []
unfolding loop_at
walk_around_rep = refl

walk_around_child : around walk 2 ≡ turning 1 5 12 ∷ []
unfolding loop_at
walk_around_child = refl

walk_around_end : around walk 5 ≡ turning 1 5 12 ∷ []
unfolding loop_at
walk_around_end = refl

walk_behind_end : around walk 6 ≡ []
unfolding loop_at
walk_behind_end = refl

walk_steps : budget walk ≡ 54
unfolding loop_at
walk_steps = refl

walk_locks : lock_bound walk ≡ 13
unfolding loop_at
walk_locks = refl

walk_emits : emit_bound walk ≡ 1
unfolding loop_at
walk_emits = refl

-- rep a; rep b; set v0 0; end; end; ret
abbrev twofold : ℕ → ℕ → List Instr
twofold a b = Repeat a ∷ Repeat b ∷ Set 0 (pos 0) ∷ End ∷ End ∷ Return ∷ []

-- the innermost loop comes first
inner_around : around (twofold 2 3) 2 ≡ turning 1 3 3 ∷ turning 0 4 2 ∷ []
unfolding loop_at
inner_around = refl

inner_end_around : around (twofold 2 3) 3 ≡ turning 1 3 3 ∷ turning 0 4 2 ∷ []
unfolding loop_at
inner_end_around = refl

outer_around : around (twofold 2 3) 1 ≡ turning 0 4 2 ∷ []
unfolding loop_at
outer_around = refl

outer_end_around : around (twofold 2 3) 4 ≡ turning 0 4 2 ∷ []
unfolding loop_at
outer_end_around = refl

-- the counts of nested loops are multiplied
inner_weight : weight (twofold 2 3) 2 ≡ 6
unfolding loop_at
inner_weight = refl

inner_weight_from : weight_from (twofold 2 3) 0 2 ≡ 6
unfolding loop_at
inner_weight_from = refl

-- 2 + 2a + 2ab
twofold_steps : budget (twofold 2 3) ≡ 18
unfolding loop_at
twofold_steps = refl

twofold_more_steps : budget (twofold 5 7) ≡ 82
unfolding loop_at
twofold_more_steps = refl

-- the counts of loops one after another are not multiplied
beside : budget (Repeat 2 ∷ Set 0 (pos 0) ∷ End ∷ Repeat 3 ∷ Set 0 (pos 0) ∷ End ∷ Return ∷ []) ≡ 13
unfolding loop_at
beside = refl

-- a loop without an end is no loop, and an end without a loop closes none
endless : loop_at (Repeat 2 ∷ Set 0 (pos 0) ∷ []) 0 ≡ None
unfolding loop_at
endless = refl

endless_around : around (Repeat 2 ∷ Set 0 (pos 0) ∷ []) 1 ≡ []
unfolding loop_at
endless_around = refl

outer_endless : loop_at (Repeat 2 ∷ Repeat 3 ∷ End ∷ []) 0 ≡ None
unfolding loop_at
outer_endless = refl

inner_ended : loop_at (Repeat 2 ∷ Repeat 3 ∷ End ∷ []) 1 ≡ Some (turning 1 2 3)
unfolding loop_at
inner_ended = refl

alone : open_at (End ∷ Return ∷ []) 0 ≡ 0
alone = refl

alone_closes : kind_at (End ∷ Return ∷ []) 0 ≡ Some Closes
alone_closes = refl

-- the number of open loops, whether they have an end or not
open_in_two : open_at (twofold 2 3) 2 ≡ 2
open_in_two = refl
