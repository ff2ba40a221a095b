use Rattle.std.proofs.Common.{◌≡◌, ℕ, ◌+◌, ◌*◌, ◌≤◌, length, map}
use Rattle.json.specs.Json.{items, members, value, parse_map}
use Rattle.serde_json.specs.Data.{no_members}
use Rattle.serde_json.specs.Read.{of_items, of_members, converted}
use Rattle.serde_json.specs.View.{view, members_view}
use Rattle.tl_tokens.proofs.TokenLemmas.{items_onto}
use Rattle.tl_tokens.proofs.tokens.+value.Given as goal

abbrev pub decreases-value : goal.decreases-value
decreases-value l = 2 * l.depth

abbrev pub decreases-items : goal.decreases-items
decreases-items l = 2 * l.depth + 1

abbrev pub decreases-members : goal.decreases-members
decreases-members l = 2 * l.depth + 1

abbrev pub invariant-items-loop-alloc : goal.invariant-items-loop-alloc
invariant-items-loop-alloc l =
    (n : ℕ) × (length l.reader ≤ n)
    × (converted of_items (items (value l.depth) (length l.fn.reader) l.fn.reader) ≡ parse_map (items_onto (map view l.found.items)) (converted of_items (items (value l.depth) n l.reader)))
    × (length l.reader ≤ length l.fn.reader)

abbrev pub decreases-items-loop-alloc : goal.decreases-items-loop-alloc
decreases-items-loop-alloc l = length l.reader

abbrev pub invariant-members-loop-next : goal.invariant-members-loop-next
invariant-members-loop-next l =
    (n : ℕ) × (length l.reader ≤ n)
    × (converted (λ ms. of_members ms no_members) (members (value l.depth) (length l.fn.reader) l.fn.reader) ≡ converted (λ ms. of_members ms (members_view l.found.entries)) (members (value l.depth) n l.reader))
    × (length l.reader ≤ length l.fn.reader)

abbrev pub decreases-members-loop-next : goal.decreases-members-loop-next
decreases-members-loop-next l = length l.reader
