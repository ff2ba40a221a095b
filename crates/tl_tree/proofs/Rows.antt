-- Worked examples, by computation.
use Rattle.std.proofs.Common.{◌≡◌, ℕ, pos, negsuc, List, [], ◌∷◌, codes, Ok, Err, refl}
use Rattle.std.specs.Fmt.{digits}
use Rattle.serde_json.proofs.OnLiterals.{serde_json_on_literals}
use Rattle.tl_tree.specs.declared.fault.TreeFault.TheVariants.{Empty, BadRoot, BadParent, WrongCount, NotTree}
use Rattle.tl_tree.specs.Shape.{kids, shape_of}
use Rattle.tl_tree.specs.Trees.{TreeValue}
use Rattle.tl_tree.specs.Reading.{tree_of_text}
use Rattle.tl_tree.specs.Writing.{tree_text}

abbrev ways : List ℕ
ways = 0 ∷ 0 ∷ 1 ∷ 0 ∷ 1 ∷ 4 ∷ []

of_root : kids ways 0 ≡ 1 ∷ 3 ∷ []
of_root = refl

of_inner : kids ways 1 ≡ 2 ∷ 4 ∷ []
of_inner = refl

of_leaf : kids ways 5 ≡ []
of_leaf = refl

taken : shape_of 4096 (pos 0 ∷ pos 0 ∷ pos 1 ∷ []) ≡ Ok (0 ∷ 0 ∷ 1 ∷ [])
taken = refl

no_node : shape_of 4096 [] ≡ Err Empty
no_node = refl

other_root : shape_of 4096 (negsuc 0 ∷ pos 7 ∷ []) ≡ Err BadRoot
other_root = refl

first_of_two : shape_of 4096 (pos 0 ∷ pos 0 ∷ pos 2 ∷ negsuc 0 ∷ []) ≡ Err (BadParent 2)
first_of_two = refl

-- ---- the tree of three nodes

abbrev small : TreeValue
small =
    record {
      parents = 0 ∷ 0 ∷ 0 ∷ [];
      records = (pos 0 ∷ pos 0 ∷ pos 0 ∷ pos 0 ∷ pos 0 ∷ pos 0 ∷ pos 0 ∷ pos 0 ∷ []) ∷ (pos 10 ∷ pos 0 ∷ pos 0 ∷ pos 0 ∷ pos 0 ∷ pos 0 ∷ pos 0 ∷ pos 0 ∷ []) ∷ (pos 20 ∷ pos 0 ∷ pos 0 ∷ pos 0 ∷ pos 0 ∷ pos 0 ∷ pos 0 ∷ pos 0 ∷ []) ∷ [];
    }

written : tree_text small ≡ codes "{\"parents\":[0,0,0],\"records\":[[0,0,0,0,0,0,0,0],[10,0,0,0,0,0,0,0],[20,0,0,0,0,0,0,0]]}"
unfolding digits
written = refl

was_read : tree_of_text 4096 (codes "{ \"records\": [[0,0,0,0,0,0,0,0],[10,0,0,0,0,0,0,0],[20,0,0,0,0,0,0,0]], \"parents\": [0,0,0] }") ≡ Ok small
unfolding serde_json_on_literals
was_read = refl

narrow_was_read : tree_of_text 4096 (codes "{\"parents\":[0,0,0],\"records\":[[0,0,0,0],[10,0,0,0],[20,0,0,0]]}") ≡ Ok small
unfolding serde_json_on_literals
narrow_was_read = refl

no_mix : tree_of_text 4096 (codes "{\"parents\":[0,0],\"records\":[[0,0,0,0,0,0,0,0],[10,0,0,0]]}") ≡ Err NotTree
unfolding serde_json_on_literals
no_mix = refl

no_other_width : tree_of_text 4096 (codes "{\"parents\":[0],\"records\":[[1,2,3,4,5]]}") ≡ Err NotTree
unfolding serde_json_on_literals
no_other_width = refl

one_key_more : tree_of_text 4096 (codes "{\"parents\":[],\"records\":[],\"more\":0}") ≡ Err NotTree
unfolding serde_json_on_literals
one_key_more = refl

one_record_less : tree_of_text 4096 (codes "{\"parents\":[0],\"records\":[]}") ≡ Err WrongCount
unfolding serde_json_on_literals
one_record_less = refl
