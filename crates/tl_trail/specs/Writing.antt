-- How a trail is written as a JSON value and as text.
use Rattle.std.specs.Prelude.{ℕ, List, [], ◌∷◌, map, reverse, codes, get_or, length, ◌≤◌, ◌≡◌, Ok, All, FitsSigned, IfSome}
use Rattle.serde_json.specs.Data.{Data, string, object, member, no_members}
use Rattle.serde_json.specs.Written.{compact_text}
use Rattle.std.specs.Int.{w64}
use Rattle.tl_history.specs.declared.history.TheConstants.{MAX_EVENTS}
use Rattle.tl_tree.specs.Trees.{IsRecord}
use Rattle.tl_tree.specs.declared.record.Width.TheVariants.{Wide}
use Rattle.tl_tree.specs.Reading.{tree_at}
use Rattle.tl_tree.specs.Writing.{integers_data, records_data, tree_data}
use Rattle.tl_json.specs.Lists.{list_data}
use Rattle.tl_json.specs.Procedures.{procedure_data, AreAccepted}
use Rattle.tl_json.specs.Replies.{reply_data}
use Rattle.tl_json.specs.Events.{event_data, HasRecord}
use Rattle.tl_procedures.specs.Names.{Named, no_procedure, AreFreeAfter}
use Rattle.tl_trail.specs.ReadsBack.{IsReadBack}
use Rattle.tl_trail.specs.Trails.{CallValue, TrailValue, IsTrail}

-- the name of the procedure, the arguments, and the reply
abbrev pub call_data : List Named → CallValue → Data
call_data procedures k =
    list_data (string (get_or procedures k.procedure no_procedure).name ∷ integers_data k.args ∷ reply_data k.reply ∷ [])

-- the members, in the order in which they are written
abbrev pub trail_data : TrailValue → Data
trail_data t = object
    (member (codes "calls") (list_data (map (call_data t.procedures) t.calls))
    (member (codes "end") (records_data t.ends)
    (member (codes "events") (list_data (map event_data (reverse t.past)))
    (member (codes "procs") (list_data (map procedure_data t.procedures))
    (member (codes "tree") (tree_data (record { parents = t.parents; records = t.opening }))
    no_members)))))

abbrev pub trail_text : TrailValue → List ℕ
trail_text t = compact_text (trail_data t)

-- ---- what can be written

-- the arguments and the reply fit signed 64-bit integers, and the reply has at most 32 values
pub record FitsText (k : CallValue) : Type 0 where
  pub args : All (FitsSigned w64) k.args
  pub reply : IfSome k.reply (λ values. All (FitsSigned w64) values)
  pub few : IfSome k.reply (λ values. length values ≤ 32)

-- what is true of a trail that is written
pub record IsWritable (t : TrailValue) : Type 0 where
  pub trail : IsTrail t
  pub free : AreFreeAfter [] t.procedures
  pub accepted : AreAccepted t.procedures
  pub calls : All FitsText t.calls
  pub events : All HasRecord (reverse t.past)
  pub few : length t.past ≤ MAX_EVENTS
  pub ends : All IsRecord t.ends
  pub tree : (limit : ℕ) → length t.parents ≤ limit → tree_at limit Wide (tree_data (record { parents = t.parents; records = t.opening })) ≡ Ok (record { parents = t.parents; records = t.opening })
  -- the parts that are first made JSON values are read back as they were
  pub calls_back : IsReadBack (list_data (map (call_data t.procedures) t.calls))
  pub procedures_back : IsReadBack (list_data (map procedure_data t.procedures))
  pub tree_back : IsReadBack (tree_data (record { parents = t.parents; records = t.opening }))
