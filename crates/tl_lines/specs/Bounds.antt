-- The bounds of a procedure as a JSON value.
use Rattle.std.specs.Prelude.{ℕ, pos, codes}
use Rattle.serde_json.specs.Data.{Data, object, member, no_members}
use Rattle.tl_tree.specs.Writing.{integer_data}

-- the object with the bounds of a procedure
abbrev pub bounds_data : ℕ → ℕ → ℕ → Data
bounds_data emits locks steps =
    object (member (codes "bounds")
    (object (member (codes "emits") (integer_data (pos emits)) (member (codes "locks") (integer_data (pos locks)) (member (codes "steps") (integer_data (pos steps)) no_members))))
    no_members)
