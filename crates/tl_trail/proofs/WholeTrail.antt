-- The trail that a form denotes, with its tree and its procedures.
use Rattle.std.proofs.Common.{◌≡◌, ◌≢◌, ◌<◌, ◌≤◌, ℕ, ℤ, List, [], map, length, reverse, Option, Some, None, Ok, Err, nat_le, true, false, refl, sym, ap, ◌∙◌, arith, eq-eqb, ne_eqb, inl, inr, Bool, if◌then◌else◌}
use Rattle.std.proofs.lemmas.Bool.{le-leb, lt-leb}
use Rattle.std.proofs.lemmas.List.{reverse-reverse, length-reverse}
use Rattle.tl_tree.specs.Records.{Records}
use Rattle.tl_tree.specs.Trees.{TreeValue}
use Rattle.tl_tree_locking.specs.declared.event.Event.{Event}
use Rattle.tl_procedures.specs.Names.{Named}
use Rattle.tl_trail.specs.declared.fault.TrailFault.{TrailFault}
use Rattle.tl_trail.specs.declared.fault.TrailFault.TheVariants.{NotTrail, Procedure, Memory}
use Rattle.tl_json.specs.declared.event.RawEvent.{RawEvent}
use Rattle.tl_trail.specs.declared.raw.RawTrail.{RawTrail}
use Rattle.tl_json.specs.declared.fault.RegisterFault.{RegisterFault}
use Rattle.tl_json.specs.Faults.{is_memory}
use Rattle.tl_trail.specs.Faults.{of_register}
use Rattle.tl_trail.specs.Trails.{CallValue, TrailValue}
use Rattle.tl_json.specs.Registering.{TakenUp, IsFirstUnfit}
use Rattle.tl_json.specs.Procedures.{procedure_form}
use Rattle.tl_trail.specs.Reading.{TrailForm, calls_as, events_as, trail_of_events, trail_of_form, IsFound, IsFaultFound}
use Rattle.tl_trail.specs.Raw.{call_form, form_with, IsHalfRead, IsTrailOf, IsFaultOf}

module _ (tree : TreeValue) (procedures : List Named) (form : TrailForm) where
  trail_is : (calls : List CallValue) (past : List Event) → calls_as procedures form.calls ≡ Ok calls → events_as (length calls) (length tree.parents) form.events ≡ Some (reverse past)
      → length form.ends ≡ length tree.parents → length past ≤ 1048576
      → trail_of_form tree procedures form ≡ Ok (record { parents = tree.parents; opening = tree.records; procedures = procedures; calls = calls; past = past; ends = form.ends })
  trail_is calls past calls_are events_are ends_are few =
      let size = length-reverse past in
      let within : nat_le (length (reverse past)) 1048576 ≡ true = le-leb _ _ (omega arith) in
      rw (calls_are, events_are, eq-eqb (length form.ends) (length tree.parents) ends_are, within)
      (ap (λ p. Ok (record { parents = tree.parents; opening = tree.records; procedures = procedures; calls = calls; past = p; ends = form.ends })) (reverse-reverse past))

  calls_wrong : (f : TrailFault) → calls_as procedures form.calls ≡ Err f → trail_of_form tree procedures form ≡ Err f
  calls_wrong f wrong = rw wrong refl

  ends_wrong : (calls : List CallValue) → calls_as procedures form.calls ≡ Ok calls → length form.ends ≢ length tree.parents → trail_of_form tree procedures form ≡ Err NotTrail
  ends_wrong calls calls_are other = rw calls_are (by (events_as (length calls) (length tree.parents) form.events))
    where
      by : (o : Option (List Event)) → trail_of_events tree procedures form calls o ≡ Err NotTrail
      by None = refl
      by (Some events) = rw (ne_eqb (length form.ends) (length tree.parents) other) refl

  events_wrong : (calls : List CallValue) → calls_as procedures form.calls ≡ Ok calls → length form.ends ≡ length tree.parents
      → ((events : List Event) → events_as (length calls) (length tree.parents) form.events ≡ Some events → 1048576 < length events)
      → trail_of_form tree procedures form ≡ Err NotTrail
  events_wrong calls calls_are ends_are many = rw calls_are (by (events_as (length calls) (length tree.parents) form.events) many)
    where
      by : (o : Option (List Event)) → ((events : List Event) → o ≡ Some events → 1048576 < length events) → trail_of_events tree procedures form calls o ≡ Err NotTrail
      by None none = refl
      by (Some events) h =
          let past : nat_le (length events) 1048576 ≡ false = lt-leb _ _ (h events refl) in
          rw (eq-eqb (length form.ends) (length tree.parents) ends_are, past) refl

-- ---- procedures that aren't registered

by_memory : (b : Bool) (f : RegisterFault) (e : TrailFault) → is_memory f ≡ b → e ≡ (if b then Memory else Procedure f) → e ≢ Memory → (e ≡ Procedure f) × (is_memory f ≡ false)
by_memory true f e memory is other = absurd (other is)
by_memory false f e memory is other = (is, memory)

pub procedures_fault : (tree : TreeValue) (raw : RawTrail) (f : RegisterFault) (e : TrailFault) → (is_memory f ≡ false → IsFirstUnfit [] (map procedure_form raw.procedures.items) f)
    → e ≡ of_register f → e ≢ Memory → (parts : List ℤ × Records) → IsFaultOf tree (form_with raw parts) e
procedures_fault tree raw f e first is other parts =
    let own = by_memory (is_memory f) f e refl is other in
    inl (f, own.0, first own.1)

-- ---- what was read, with the tree and the procedures

module _ (tree : TreeValue) (raw : RawTrail) (procedures : List Named) (taken : TakenUp [] (map procedure_form raw.procedures.items) procedures) where
  pub calls_fault : (e : TrailFault) → calls_as procedures (map call_form raw.calls.items) ≡ Err e → (parts : List ℤ × Records) → IsFaultOf tree (form_with raw parts) e
  calls_fault e wrong parts = inr (procedures, taken, calls_wrong tree procedures (form_with raw parts) e wrong)

  module _ (calls : List CallValue) (calls_are : calls_as procedures (map call_form raw.calls.items) ≡ Ok calls) where
    pub ends_fault : length raw.ends.items ≢ length tree.parents → (parts : List ℤ × Records) → IsFaultOf tree (form_with raw parts) NotTrail
    ends_fault other parts = inr (procedures, taken, ends_wrong tree procedures (form_with raw parts) calls calls_are other)

    module _ (ends_are : length raw.ends.items ≡ length tree.parents) (count nodes : ℕ) (forms : List RawEvent) (count_is : count ≡ length calls) (nodes_are : nodes ≡ length tree.parents) (forms_are : forms ≡ raw.events.items) where
      same_events : events_as count nodes forms ≡ events_as (length calls) (length tree.parents) raw.events.items
      same_events = (λ i. events_as (count_is i) (nodes_are i) (forms_are i))

      pub events_fault : (e : TrailFault) → (e ≡ NotTrail) × ((events : List Event) → events_as count nodes forms ≡ Some events → 1048576 < length events)
          → (parts : List ℤ × Records) → IsFaultOf tree (form_with raw parts) e
      events_fault e wrong parts =
          let all = events_wrong tree procedures (form_with raw parts) calls calls_are ends_are (λ events is. wrong.1 events (same_events ∙ is)) in
          inr (procedures, taken, all ∙ ap Err (sym wrong.0))

      pub trail_stands : (past : List Event) → events_as count nodes forms ≡ Some (reverse past) → length past ≤ 1048576 → (parts : List ℤ × Records)
          → IsTrailOf tree (form_with raw parts) (record { parents = tree.parents; opening = tree.records; procedures = procedures; calls = calls; past = past; ends = raw.ends.items })
      trail_stands past events_are few parts = record {
        taken_up = taken;
        same = trail_is tree procedures (form_with raw parts) calls past calls_are (sym same_events ∙ events_are) ends_are few;
      }

-- ---- what was found

pub found_is : (limit : ℕ) (found : Option TrailForm) (tree : TreeValue) (raw : RawTrail) (t : TrailValue) → IsHalfRead limit found tree raw → ((parts : List ℤ × Records) → IsTrailOf tree (form_with raw parts) t) → IsFound limit found t
found_is limit found tree raw t is trail = record {
  form = form_with raw is.parts;
  tree = tree;
  form_is = is.form_is;
  tree_is = is.tree_is;
  taken_up = (trail is.parts).taken_up;
  same = (trail is.parts).same;
}

pub found_fault : (limit : ℕ) (found : Option TrailForm) (tree : TreeValue) (raw : RawTrail) (e : TrailFault) → IsHalfRead limit found tree raw → ((parts : List ℤ × Records) → IsFaultOf tree (form_with raw parts) e) → IsFaultFound limit found e
found_fault limit found tree raw e is wrong = inr (form_with raw is.parts, is.form_is, inr (tree, is.tree_is, wrong is.parts))
