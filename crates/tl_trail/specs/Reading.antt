-- When a text denotes a trail, and which fault it has otherwise.
use Rattle.std.specs.Prelude.{◌≡◌, ◌⊎◌, ℕ, ◌==◌, nat_lt, nat_le, ℤ, pos, negsuc, List, [], ◌∷◌, length, get_or, codes, Option, Some, None, option_map, option_and_then, Result, Ok, Err, if◌then◌else◌, ◌&&◌}
use Rattle.serde_json.specs.Data.{Data}
use Rattle.serde_json.specs.Events.{members_len}
use Rattle.serde_json.specs.Find.{as_str, as_object, get_member}
use Rattle.serde_json.specs.Read.{read}
use Rattle.tl_history.specs.declared.history.TheConstants.{MAX_CALLS, MAX_EVENTS}
use Rattle.std.specs.Option.{option_or}
use Rattle.tl_tree.specs.declared.record.Width.{Width}
use Rattle.tl_tree.specs.declared.record.Width.TheVariants.{Wide, Narrow}
use Rattle.tl_tree.specs.Records.{Records}
use Rattle.tl_tree.specs.Trees.{TreeValue}
use Rattle.tl_tree.specs.Reading.{both, integers_of, records_of, tree_from, form_at as tree_form_at}
use Rattle.tl_tree.specs.declared.fault.TreeFault.{TreeFault}
use Rattle.tl_tree_locking.specs.declared.event.Event.{Event}
use Rattle.tl_tree_locking.specs.declared.event.Event.TheVariants as event
use Rattle.tl_tree_locking.specs.History.{past_of}
use Rattle.tl_procedures.specs.Names.{Named, number_of, no_procedure}
use Rattle.tl_json.specs.declared.event.RawEvent.{RawEvent}
use Rattle.tl_json.specs.declared.event.RawEvent.TheVariants.{Admitted, Locked, Freed, Ended}
use Rattle.tl_trail.specs.declared.fault.TrailFault.{TrailFault}
use Rattle.tl_trail.specs.declared.fault.TrailFault.TheVariants.{NotTrail, Tree, Procedure, NoProcedure, WrongArgs, TooManyCalls}
use Rattle.tl_json.specs.Lists.{list_of, each_of}
use Rattle.tl_json.specs.Procedures.{procedure_of}
use Rattle.tl_json.specs.Replies.{reply_of}
use Rattle.tl_json.specs.Events.{event_of}
use Rattle.tl_json.specs.Registering.{TakenUp, IsFirstUnfit}
use Rattle.tl_json.specs.declared.fault.RegisterFault.{RegisterFault}
use Rattle.tl_trail.specs.Trails.{CallValue, TrailValue}

-- ---- the form

-- a call as it is written: the name of its procedure, its arguments, and optionally its reply
pub record CallForm : Type 0 where
  pub name : List ℕ
  pub args : List ℤ
  pub reply : Option (List ℤ)

-- the tree's parents and records, the names and texts of the procedures, the calls, the events with the earliest first, and the end records
pub record TrailForm : Type 0 where
  pub tree : List ℤ × Records
  pub procedures : List (List ℕ × List ℕ)
  pub calls : List CallForm
  pub events : List RawEvent
  pub ends : Records

-- the name of a procedure, arguments, and a reply
abbrev pub call_in : List Data → Option CallForm
call_in (name ∷ args ∷ reply ∷ []) =
    option_map (λ x. record { name = x.0.0; args = x.0.1; reply = x.1 }) (both (both (as_str name) (integers_of args)) (reply_of reply))
call_in _ = None

abbrev pub call_of : Data → Option CallForm
call_of d = option_and_then call_in (list_of d)

-- the members of an object that has these five and no others
pub record Parts : Type 0 where
  pub calls : Data
  pub ends : Data
  pub events : Data
  pub procedures : Data
  pub tree : Data

abbrev pub parts_of : Data → Option Parts
parts_of d = option_and_then (λ ms. if members_len ms == 5
    then option_map (λ x. record { calls = x.0.0; ends = x.0.1; events = x.1.0; procedures = x.1.1.0; tree = x.1.1.1 })
    (both (both (get_member (codes "calls") ms) (get_member (codes "end") ms))
    (both (get_member (codes "events") ms) (both (get_member (codes "procs") ms) (get_member (codes "tree") ms))))
    else None) (as_object d)

-- the form of the parts, if all records have this width
abbrev pub form_at : Width → Parts → Option TrailForm
form_at width parts =
    option_map (λ x. record { calls = x.0.0; ends = x.0.1; events = x.1.0; procedures = x.1.1.0; tree = x.1.1.1 })
    (both (both (each_of call_of parts.calls) (records_of width parts.ends))
    (both (each_of (event_of width) parts.events) (both (each_of procedure_of parts.procedures) (tree_form_at width parts.tree))))

-- the form of the parts; all records are wide, or all are narrow
abbrev pub form_of_parts : Parts → Option TrailForm
form_of_parts parts = option_or (form_at Wide parts) (form_at Narrow parts)

-- the form of a JSON value
abbrev pub form_of_data : Data → Option TrailForm
form_of_data d = option_and_then form_of_parts (parts_of d)

-- the form of a text
abbrev pub form_in : List ℕ → Option TrailForm
form_in text = option_and_then form_of_data (read text)

-- ---- calls, events and records in the end

abbrev pub with_arity : Named → ℕ → CallForm → Result CallValue TrailFault
with_arity p number form =
    if length form.args == p.code.arity then Ok (record { procedure = number; args = form.args; reply = form.reply })
    else Err WrongArgs

abbrev pub called : List Named → CallForm → Option ℕ → Result CallValue TrailFault
called procedures form (Some number) = with_arity (get_or procedures number no_procedure) number form
called procedures form None = Err NoProcedure

-- a call of the procedure with this name, if it takes that many arguments; otherwise the fault
abbrev pub call_as : List Named → CallForm → Result CallValue TrailFault
call_as procedures form = called procedures form (number_of procedures form.name)

abbrev pub and_calls : Result CallValue TrailFault → Result (List CallValue) TrailFault → Result (List CallValue) TrailFault
and_calls (Err e) more = Err e
and_calls (Ok k) (Err e) = Err e
and_calls (Ok k) (Ok ks) = Ok (k ∷ ks)

-- the calls, or the fault of the first call that has one
abbrev pub each_call : List Named → List CallForm → Result (List CallValue) TrailFault
each_call procedures [] = Ok []
each_call procedures (form ∷ forms) = and_calls (call_as procedures form) (each_call procedures forms)

-- the same for at most MAX_CALLS calls
abbrev pub calls_as : List Named → List CallForm → Result (List CallValue) TrailFault
calls_as procedures forms = if nat_le (length forms) MAX_CALLS then each_call procedures forms else Err TooManyCalls

-- a number below `count`
abbrev pub below : ℕ → ℤ → Option ℕ
below count (pos n) = if nat_lt n count then Some n else None
below count (negsuc n) = None

-- the event, if its call and its node exist
abbrev pub event_as : ℕ → ℕ → RawEvent → Option Event
event_as calls nodes (Admitted c) = option_map event.Admit (below calls c)
event_as calls nodes (Locked c x r) = option_map (λ y. event.Lock y.1 y.0 r) (both (below calls c) (below nodes x))
event_as calls nodes (Freed c x r) = option_map (λ y. event.Free y.1 y.0 r) (both (below calls c) (below nodes x))
event_as calls nodes (Ended c) = option_map event.Done (below calls c)

abbrev pub events_as : ℕ → ℕ → List RawEvent → Option (List Event)
events_as calls nodes [] = Some []
events_as calls nodes (e ∷ es) = option_map (λ x. x.0 ∷ x.1) (both (event_as calls nodes e) (events_as calls nodes es))

-- the trail, if there are at most MAX_EVENTS events and one end record for each node
abbrev pub trail_with : TreeValue → List Named → TrailForm → List CallValue → List Event → Result TrailValue TrailFault
trail_with tree procedures form calls events =
    if (length form.ends == length tree.parents) && nat_le (length events) MAX_EVENTS
    then Ok (record { parents = tree.parents; opening = tree.records; procedures = procedures; calls = calls; past = past_of events; ends = form.ends })
    else Err NotTrail

abbrev pub trail_of_events : TreeValue → List Named → TrailForm → List CallValue → Option (List Event) → Result TrailValue TrailFault
trail_of_events tree procedures form calls (Some events) = trail_with tree procedures form calls events
trail_of_events tree procedures form calls None = Err NotTrail

abbrev pub trail_of_calls : TreeValue → List Named → TrailForm → Result (List CallValue) TrailFault → Result TrailValue TrailFault
trail_of_calls tree procedures form (Ok calls) =
    trail_of_events tree procedures form calls (events_as (length calls) (length tree.parents) form.events)
trail_of_calls tree procedures form (Err e) = Err e

-- the trail of this tree and these procedures, or the first fault: too many calls, a call's fault, or a fault of the events or end records
abbrev pub trail_of_form : TreeValue → List Named → TrailForm → Result TrailValue TrailFault
trail_of_form tree procedures form = trail_of_calls tree procedures form (calls_as procedures form.calls)

-- ---- the text

-- The form that was found is one of this trail.
pub record IsFound (limit : ℕ) (found : Option TrailForm) (t : TrailValue) : Type 0 where
  pub form : TrailForm
  pub tree : TreeValue
  pub form_is : found ≡ Some form
  pub tree_is : tree_from limit (Some form.tree) ≡ Ok tree
  pub taken_up : TakenUp [] form.procedures t.procedures
  pub same : trail_of_form tree t.procedures form ≡ Ok t

-- the text denotes the trail
abbrev pub IsTrailText : ℕ → List ℕ → TrailValue → Type 0
IsTrailText limit text t = IsFound limit (form_in text) t

-- the fault of the first procedure that can't be registered
abbrev pub IsUnregistered : List (List ℕ × List ℕ) → TrailFault → Type 0
IsUnregistered ps e = (f : RegisterFault) × (e ≡ Procedure f) × IsFirstUnfit [] ps f

-- the first fault of a form: that of the tree, of a procedure, or of the rest
abbrev pub IsFormFault : ℕ → TrailForm → TrailFault → Type 0
IsFormFault limit form e =
    ((f : TreeFault) × (e ≡ Tree f) × (tree_from limit (Some form.tree) ≡ Err f))
    ⊎ ((tree : TreeValue) × (tree_from limit (Some form.tree) ≡ Ok tree)
    × (IsUnregistered form.procedures e
    ⊎ ((procedures : List Named) × TakenUp [] form.procedures procedures × (trail_of_form tree procedures form ≡ Err e))))

-- the first fault of what was found
abbrev pub IsFaultFound : ℕ → Option TrailForm → TrailFault → Type 0
IsFaultFound limit found e =
    ((e ≡ NotTrail) × (found ≡ None))
    ⊎ ((form : TrailForm) × (found ≡ Some form) × IsFormFault limit form e)

-- the first fault of a text
abbrev pub IsFirstTrailFault : ℕ → List ℕ → TrailFault → Type 0
IsFirstTrailFault limit text e = IsFaultFound limit (form_in text) e
