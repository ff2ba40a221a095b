-- A trail that is partly read: the stored parts of its form.
use Rattle.std.specs.Prelude.{ℕ, ◌≡◌, ◌⊎◌, ℤ, List, [], map, Option, Some, None, option_map, Ok, Err, string_bytes}
use Rattle.tl_tree.specs.Records.{Records}
use Rattle.tl_tree.specs.Trees.{TreeValue}
use Rattle.tl_tree.specs.Reading.{tree_from}
use Rattle.tl_tree.specs.declared.fault.TreeFault.{TreeFault}
use Rattle.tl_procedures.specs.Names.{Named}
use Rattle.tl_trail.specs.declared.fault.TrailFault.{TrailFault}
use Rattle.tl_trail.specs.declared.fault.TrailFault.TheVariants.{NotTrail, Tree}
use Rattle.serde_json.specs.View.{view}
use Rattle.tl_trail.specs.declared.raw.Members.{Members}
use Rattle.tl_trail.specs.declared.raw.RawCall.{RawCall}
use Rattle.tl_trail.specs.declared.raw.RawTrail.{RawTrail}
use Rattle.tl_trail.specs.Trails.{TrailValue}
use Rattle.tl_json.specs.Procedures.{procedure_form}
use Rattle.tl_json.specs.Registering.{TakenUp}
use Rattle.tl_trail.specs.Reading.{CallForm, Parts, TrailForm, trail_of_form, IsUnregistered}

abbrev pub call_form : RawCall → CallForm
call_form x = record { name = string_bytes x.name; args = x.args.items; reply = option_map (λ r. r.items) x.reply }

abbrev pub parts_in : Members → Parts
parts_in m = record {
  calls = view m.calls.now;
  ends = view m.ends.now;
  events = view m.events.now;
  procedures = view m.procedures.now;
  tree = view m.tree.now;
}

-- the form with these stored parts and this tree
abbrev pub form_with : RawTrail → List ℤ × Records → TrailForm
form_with raw tree = record {
  tree = tree;
  procedures = map procedure_form raw.procedures.items;
  calls = map call_form raw.calls.items;
  events = raw.events.items;
  ends = raw.ends.items;
}

-- ---- the text

-- The form consists of the stored parts and the parts of the tree.
pub record IsHalfRead (limit : ℕ) (form : Option TrailForm) (tree : TreeValue) (raw : RawTrail) : Type 0 where
  pub parts : List ℤ × Records
  pub form_is : form ≡ Some (form_with raw parts)
  pub tree_is : tree_from limit (Some parts) ≡ Ok tree

-- there is no form, or its tree has this fault
abbrev pub IsUnread : ℕ → Option TrailForm → TrailFault → Type 0
IsUnread limit found e =
    ((e ≡ NotTrail) × (found ≡ None))
    ⊎ ((form : TrailForm) × (f : TreeFault) × (found ≡ Some form) × (e ≡ Tree f) × (tree_from limit (Some form.tree) ≡ Err f))

-- ---- what the form stands for, with the tree

pub record IsTrailOf (tree : TreeValue) (form : TrailForm) (t : TrailValue) : Type 0 where
  pub taken_up : TakenUp [] form.procedures t.procedures
  pub same : trail_of_form tree t.procedures form ≡ Ok t

-- the fault of the form apart from its tree
abbrev pub IsFaultOf : TreeValue → TrailForm → TrailFault → Type 0
IsFaultOf tree form e =
    IsUnregistered form.procedures e
    ⊎ ((procedures : List Named) × TakenUp [] form.procedures procedures × (trail_of_form tree procedures form ≡ Err e))
