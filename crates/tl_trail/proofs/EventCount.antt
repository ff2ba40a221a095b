-- There are as many events as event forms.
use Rattle.std.proofs.Common.{◌≡◌, ℕ, suc, List, [], ◌∷◌, length, Option, Some, None, option_map, refl, sym, ap, ◌∙◌}
use Rattle.tl_tree.specs.Reading.{both}
use Rattle.tl_tree_locking.specs.declared.event.Event.{Event}
use Rattle.tl_json.specs.declared.event.RawEvent.{RawEvent}
use Rattle.tl_trail.specs.Reading.{event_as, events_as}

abbrev pub and_event : Option Event → Option (List Event) → Option (List Event)
and_event o rest = option_map (λ x. x.0 ∷ x.1) (both o rest)

-- reading gives as many results as there are forms
as_many : (o : Option Event) (rest : Option (List Event)) (n : ℕ) (events : List Event) → ((es : List Event) → rest ≡ Some es → length es ≡ n) → and_event o rest ≡ Some events → length events ≡ suc n
as_many None rest n events h e = absurd cc
as_many (Some x) None n events h e = absurd cc
as_many (Some x) (Some es) n events h e = let same : x ∷ es ≡ events = cc in ap length (sym same) ∙ ap suc (h es refl)

pub length-events_as : (calls nodes : ℕ) (forms : List RawEvent) (events : List Event) → events_as calls nodes forms ≡ Some events → length events ≡ length forms
length-events_as calls nodes [] events e = let same : [] ≡ events = cc in ap length (sym same)
length-events_as calls nodes (f ∷ forms) events e = as_many (event_as calls nodes f) (events_as calls nodes forms) (length forms) events (length-events_as calls nodes forms) e
