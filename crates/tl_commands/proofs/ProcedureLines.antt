-- The lines with a count, with the number of nodes, and with bounds.
use Rattle.std.proofs.Common.{◌≡◌, ℕ, pos, List, [], ◌∷◌, ◌++◌, false, codes, decimal, refl, sym, ap, ◌∙◌, append_assoc}
use Rattle.serde_json.specs.Data.{Data, object, member, no_members}
use Rattle.serde_json.specs.Written.{has_float, compact_text}
use Rattle.serde_json.proofs.OnLiterals.{serde_json_on_literals}
use Rattle.tl_tree.specs.Writing.{integer_data}
use Rattle.tl_lines.specs.Bounds.{bounds_data}
use Rattle.tl_commands.specs.Procedures.{count_text, bounds_text}
use Rattle.tl_commands.specs.Widening.{nodes_text}

-- ---- the values

abbrev pub count_data : ℕ → Data
count_data count = object (member (codes "count") (integer_data (pos count)) no_members)

abbrev pub nodes_data : ℕ → Data
nodes_data nodes = object (member (codes "nodes") (integer_data (pos nodes)) no_members)

pub count_whole : (count : ℕ) → has_float (count_data count) ≡ false
count_whole count = refl

pub nodes_whole : (nodes : ℕ) → has_float (nodes_data nodes) ≡ false
nodes_whole nodes = refl

pub bounds_whole : (emits locks steps : ℕ) → has_float (bounds_data emits locks steps) ≡ false
bounds_whole emits locks steps = refl

-- ---- their texts

pub count_written : (count : ℕ) → compact_text (count_data count) ++ 10 ∷ [] ≡ count_text count
unfolding serde_json_on_literals
count_written count =
    ap (λ s. codes "{\"count\":" ++ s) (append_assoc (decimal count) (codes "}") (10 ∷ []))
    ∙ sym (append_assoc (codes "{\"count\":") (decimal count) (codes "}\n"))

pub nodes_written : (nodes : ℕ) → compact_text (nodes_data nodes) ++ 10 ∷ [] ≡ nodes_text nodes
unfolding serde_json_on_literals
nodes_written nodes =
    ap (λ s. codes "{\"nodes\":" ++ s) (append_assoc (decimal nodes) (codes "}") (10 ∷ []))
    ∙ sym (append_assoc (codes "{\"nodes\":") (decimal nodes) (codes "}\n"))

regroup : (a b c d e f g x y : List ℕ) → (a ++ ((b ++ (c ++ (d ++ (e ++ (f ++ g))))) ++ x)) ++ y ≡ a ++ b ++ c ++ d ++ e ++ f ++ (g ++ x ++ y)
regroup a b c d e f g x y = simp append_assoc

pub bounds_written : (emits locks steps : ℕ) → compact_text (bounds_data emits locks steps) ++ 10 ∷ [] ≡ bounds_text emits locks steps
unfolding serde_json_on_literals
bounds_written emits locks steps =
    regroup (codes "{\"bounds\":{\"emits\":") (decimal emits) (codes ",\"locks\":") (decimal locks) (codes ",\"steps\":") (decimal steps) (codes "}") (codes "}") (10 ∷ [])
