use Rattle.std.proofs.Common.{◌≡◌, ℕ, ◌≤◌, List, length, map}
use Rattle.json.specs.Json.{items, value, parse_map}
use Rattle.serde_json.specs.Data.{Data}
use Rattle.serde_json.specs.Read.{of_items, converted}
use Rattle.tl_trail.specs.Tokens.{item_depth}
use Rattle.tl_tokens.proofs.TokenLemmas.{items_onto}
use Rattle.tl_trail.proofs.TokenLemmas.{Stand}
use Rattle.tl_trail.proofs.tokens.each.Given as goal

abbrev pub invariant-loop-alloc : goal.invariant-loop-alloc
invariant-loop-alloc g l =
    (n : ℕ) × (ds : List Data) × (length l.reader ≤ n)
    × (converted of_items (items (value item_depth) (length l.fn.reader) l.fn.reader) ≡ parse_map (items_onto ds) (converted of_items (items (value item_depth) n l.reader)))
    × Stand g.T.FromValue.form_of ds (map g.T.FromValue.form l.found.items)
    × (length l.reader ≤ length l.fn.reader)

abbrev pub decreases-loop-alloc : goal.decreases-loop-alloc
decreases-loop-alloc g l = length l.reader
