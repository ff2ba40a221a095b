-- A JSON value is read as a tree exactly if it denotes that tree.
use Rattle.std.proofs.Common.{◌≡◌, ℕ, ◌==◌, ◌≤◌, ℤ, pos, List, length, map, codes, cond, Bool, true, false, Option, Some, None, option_and_then, Result, Ok, Err, refl, sym, ap, ◌∙◌, eq-eqb}
use Rattle.std.proofs.lemmas.Bool.{eqb-true}
use Rattle.std.proofs.lemmas.Option.{some_pair_parts}
use Rattle.serde_json.specs.Data.{Data, Members}
use Rattle.serde_json.specs.Events.{members_len}
use Rattle.serde_json.specs.Find.{as_object, get_member}
use Rattle.tl_tree.specs.declared.fault.TreeFault.{TreeFault}
use Rattle.tl_tree.specs.declared.fault.TreeFault.TheVariants.{WrongCount}
use Rattle.tl_tree.specs.declared.record.Width.{Width}
use Rattle.tl_tree.specs.Records.{Records}
use Rattle.tl_tree.specs.declared.shape.TheConstants.{MAX_NODES}
use Rattle.tl_tree.specs.Shape.{shape_of}
use Rattle.tl_tree.specs.Trees.{TreeValue, IsWhole}
use Rattle.tl_tree.specs.Reading.{both, integers_of, records_of, parts_of, form_at, tree_with, tree_from, tree_at, StandsFor}
use Rattle.tl_tree.proofs.Parents.{tree_from_shape_of, shape_of-pos}

both_some : {A B : Type 0} (a : Option A) (b : Option B) (x : A) (y : B) → both a b ≡ Some (x, y) → (a ≡ Some x) × (b ≡ Some y)
both_some None b x y e = absurd cc
both_some (Some z) None x y e = absurd cc
both_some (Some z) (Some w) x y e = let same = some_pair_parts z x w y e in (ap Some same.0, ap Some same.1)

-- ---- what is read stands for what it was read as

chosen : {A : Type 0} (b : Bool) (o : Option A) (x : A) → cond b o None ≡ Some x → (b ≡ true) × (o ≡ Some x)
chosen true o x e = (refl, e)
chosen false o x e = absurd cc

counted : (b : Bool) (t u : TreeValue) → cond {A = Result TreeValue TreeFault} b (Ok t) (Err WrongCount) ≡ Ok u → (b ≡ true) × (t ≡ u)
counted true t u e = (refl, cc)
counted false t u e = absurd cc

-- the shape and the records are those of the tree
abbrev FromForm : List ℤ → Records → TreeValue → Type 0
FromForm numbers records tree = (numbers ≡ map pos tree.parents) × (records ≡ tree.records) × IsWhole tree

from_shape : (limit : ℕ) (numbers : List ℤ) (records : Records) (r : Result (List ℕ) TreeFault) (tree : TreeValue) → limit ≤ MAX_NODES → shape_of limit numbers ≡ r → tree_with records r ≡ Ok tree → FromForm numbers records tree
from_shape limit numbers records (Err e) tree most shape is = absurd cc
from_shape limit numbers records (Ok parents) tree most shape is =
    let t : TreeValue = record { parents = parents; records = records } in
    let parts = counted (length records == length parents) t tree is in
    let good = tree_from_shape_of limit numbers parents most shape in
    rw (← parts.1) (sym good.1, refl, record { shape = good.0; count = eqb-true (length records) (length parents) parts.0 })

module _ (limit : ℕ) (width : Width) (d : Data) (tree : TreeValue) where
  with_members : (ms : Members) (numbers : List ℤ) (records : Records) (parents_member records_member : Data) → as_object d ≡ Some ms
      → cond (members_len ms == 2) (both (get_member (codes "parents") ms) (get_member (codes "records") ms)) None ≡ Some (parents_member, records_member)
      → both (integers_of parents_member) (records_of width records_member) ≡ Some (numbers, records) → FromForm numbers records tree → StandsFor width d tree
  with_members ms numbers records parents_member records_member object_is split form from =
      let two = chosen (members_len ms == 2) (both (get_member (codes "parents") ms) (get_member (codes "records") ms)) (parents_member, records_member) split in
      let found = both_some (get_member (codes "parents") ms) (get_member (codes "records") ms) parents_member records_member two.1 in
      let lists = both_some (integers_of parents_member) (records_of width records_member) numbers records form in
      record {
        members = ms;
        parents_member = parents_member;
        records_member = records_member;
        object_is = object_is;
        two = eqb-true (members_len ms) 2 two.0;
        parents_found = found.0;
        records_found = found.1;
        parents_are = lists.0 ∙ ap Some from.0;
        records_are = lists.1 ∙ ap Some from.1;
        whole = from.2;
      }

  with_parts : (o : Option Members) (parts : Data × Data) (numbers : List ℤ) (records : Records) → as_object d ≡ o
      → option_and_then (λ ms. cond (members_len ms == 2) (both (get_member (codes "parents") ms) (get_member (codes "records") ms)) None) o ≡ Some parts
      → both (integers_of parts.0) (records_of width parts.1) ≡ Some (numbers, records) → FromForm numbers records tree → StandsFor width d tree
  with_parts None parts numbers records object_is split form from = absurd cc
  with_parts (Some ms) parts numbers records object_is split form from = with_members ms numbers records parts.0 parts.1 object_is split form from

  with_form : (o : Option (Data × Data)) (numbers : List ℤ) (records : Records) → parts_of d ≡ o
      → option_and_then (λ parts. both (integers_of parts.0) (records_of width parts.1)) o ≡ Some (numbers, records) → FromForm numbers records tree → StandsFor width d tree
  with_form None numbers records split form from = absurd cc
  with_form (Some parts) numbers records split form from = with_parts (as_object d) parts numbers records refl split form from

  stands_at : (o : Option (List ℤ × Records)) → limit ≤ MAX_NODES → form_at width d ≡ o → tree_from limit o ≡ Ok tree → StandsFor width d tree
  stands_at None most form is = absurd cc
  stands_at (Some pair) most form is = with_form (parts_of d) pair.0 pair.1 refl form (from_shape limit pair.0 pair.1 (shape_of limit pair.0) tree most refl is)

  pub stands_from_tree_at : limit ≤ MAX_NODES → tree_at limit width d ≡ Ok tree → StandsFor width d tree
  stands_from_tree_at most is = stands_at (form_at width d) most refl is

  -- ---- what stands for a tree is read as it

  pub tree_at_stands : StandsFor width d tree → length tree.parents ≤ limit → tree_at limit width d ≡ Ok tree
  tree_at_stands h few =
      let split : parts_of d ≡ Some (h.parents_member, h.records_member) = rw (h.object_is, eq-eqb (members_len h.members) 2 h.two, h.parents_found, h.records_found) refl in
      let form : form_at width d ≡ Some (map pos tree.parents, tree.records) = rw (split, h.parents_are, h.records_are) refl in
      let whole = h.whole in
      ap (tree_from limit) form ∙ ap (tree_with tree.records) (shape_of-pos limit tree.parents whole.shape few) ∙ rw (eq-eqb (length tree.records) (length tree.parents) whole.count) refl
