-- The parts of a text's form.
use Rattle.std.proofs.Common.{◌≡◌, ◌≢◌, List, [], ◌∷◌, length, codes, Some, None, refl, sym, ap, eq-eqb, ne_eqb}
use Rattle.serde_json.specs.Data.{Data, Members}
use Rattle.serde_json.specs.Events.{members_len}
use Rattle.serde_json.specs.Find.{as_array, as_object, get, get_member}
use Rattle.serde_json.specs.View.{items_view}
use Rattle.serde_json.specs.declared.value.Value.{Value}
use Rattle.tl_tree.proofs.Parts.{object_is}
use Rattle.tl_trail.specs.Reading.{Parts, parts_of, call_in, call_of}
use Rattle.tl_json.specs.Lists.{items_of_list}

-- ---- the members

pub parts_found : (d : Data) (ms : Members) (parts : Parts) → as_object d ≡ Some ms → members_len ms ≡ 5 → get (codes "calls") d ≡ Some parts.calls → get (codes "end") d ≡ Some parts.ends
    → get (codes "events") d ≡ Some parts.events → get (codes "procs") d ≡ Some parts.procedures → get (codes "tree") d ≡ Some parts.tree → parts_of d ≡ Some parts
parts_found d ms parts is five calls ends events procedures tree =
    let shown = object_is d ms is in
    let calls_in : get_member (codes "calls") ms ≡ Some parts.calls = rw shown at calls in
    let ends_in : get_member (codes "end") ms ≡ Some parts.ends = rw shown at ends in
    let events_in : get_member (codes "events") ms ≡ Some parts.events = rw shown at events in
    let procedures_in : get_member (codes "procs") ms ≡ Some parts.procedures = rw shown at procedures in
    let tree_in : get_member (codes "tree") ms ≡ Some parts.tree = rw shown at tree in
    rw (shown, eq-eqb (members_len ms) 5 five, calls_in, ends_in, events_in, procedures_in, tree_in) refl

pub parts_other : (d : Data) (ms : Members) → as_object d ≡ Some ms → members_len ms ≢ 5 → parts_of d ≡ None
parts_other d ms is other = rw (object_is d ms is, ne_eqb (members_len ms) 5 other) refl

-- ---- lists of another length

not_three : (vs : List Value) → length vs ≢ 3 → call_in (items_of_list (items_view vs)) ≡ None
not_three [] other = refl
not_three (a ∷ []) other = refl
not_three (a ∷ b ∷ []) other = refl
not_three (a ∷ b ∷ c ∷ []) other = absurd (other refl)
not_three (a ∷ b ∷ c ∷ d ∷ vs) other = refl

pub no_call_in : (d : Data) (vs : List Value) → Some (items_view vs) ≡ as_array d → length vs ≢ 3 → None ≡ call_of d
no_call_in d vs is other = rw (sym is) (sym (not_three vs other))
