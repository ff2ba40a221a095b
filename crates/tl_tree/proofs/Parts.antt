-- The members of a tree's object.
use Rattle.std.proofs.Common.{◌≡◌, ◌≢◌, codes, Some, None, refl, ap, eq-eqb, ne_eqb}
use Rattle.serde_json.specs.Data.{Data, null, boolean, number, string, array, object, Members}
use Rattle.serde_json.specs.Events.{members_len}
use Rattle.serde_json.specs.Find.{as_object, get, get_member}
use Rattle.tl_tree.specs.Reading.{parts_of}

-- only an object has members
pub object_is : (d : Data) (ms : Members) → as_object d ≡ Some ms → d ≡ object ms
object_is null ms e = absurd cc
object_is (boolean b) ms e = absurd cc
object_is (number n) ms e = absurd cc
object_is (string s) ms e = absurd cc
object_is (array ds) ms e = absurd cc
object_is (object ns) ms e = ap object (let same : ns ≡ ms = cc in same)

pub parts_found : (d : Data) (ms : Members) (a b : Data) → as_object d ≡ Some ms → members_len ms ≡ 2 → get (codes "parents") d ≡ Some a → get (codes "records") d ≡ Some b → parts_of d ≡ Some (a, b)
parts_found d ms a b is two first second =
    let shown = object_is d ms is in
    let first_in : get_member (codes "parents") ms ≡ Some a = rw shown at first in
    let second_in : get_member (codes "records") ms ≡ Some b = rw shown at second in
    rw (shown, eq-eqb (members_len ms) 2 two, first_in, second_in) refl

pub parts_other : (d : Data) (ms : Members) → as_object d ≡ Some ms → members_len ms ≢ 2 → parts_of d ≡ None
parts_other d ms is other = rw (object_is d ms is, ne_eqb (members_len ms) 2 other) refl
