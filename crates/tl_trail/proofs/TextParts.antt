-- The parts of a trail's text, one after another.
use Rattle.std.proofs.Common.{◌≡◌, ℕ, List, ◌++◌, codes, map, reverse, refl, ap, ◌∙◌, append_assoc}
use Rattle.serde_json.specs.Written.{compact_text}
use Rattle.serde_json.proofs.OnLiterals.{serde_json_on_literals}
use Rattle.tl_tree.specs.Writing.{records_data, tree_data}
use Rattle.tl_json.specs.Lists.{list_data}
use Rattle.tl_json.specs.Procedures.{procedure_data}
use Rattle.tl_json.specs.Events.{event_data}
use Rattle.tl_trail.specs.Trails.{TrailValue}
use Rattle.tl_trail.specs.Writing.{call_data, trail_text}

abbrev pub calls_text : TrailValue → List ℕ
calls_text t = compact_text (list_data (map (call_data t.procedures) t.calls))

abbrev pub ends_text : TrailValue → List ℕ
ends_text t = compact_text (records_data t.ends)

abbrev pub events_text : TrailValue → List ℕ
events_text t = compact_text (list_data (map event_data (reverse t.past)))

abbrev pub procedures_text : TrailValue → List ℕ
procedures_text t = compact_text (list_data (map procedure_data t.procedures))

abbrev pub tree_text : TrailValue → List ℕ
tree_text t = compact_text (tree_data (record { parents = t.parents; records = t.opening }))

regroup : (old k a l b m c n d o e p : List ℕ) → ((((((((((old ++ k) ++ a) ++ l) ++ b) ++ m) ++ c) ++ n) ++ d) ++ o) ++ e) ++ p ≡ old ++ (k ++ (a ++ (l ++ (b ++ (m ++ (c ++ (n ++ (d ++ (o ++ (e ++ p))))))))))
regroup old k a l b m c n d o e p = simp append_assoc

members : (t : TrailValue)
    → codes "{\"calls\":"
    ++ (calls_text t
    ++ (codes ",\"end\":" ++ (ends_text t ++ (codes ",\"events\":" ++ (events_text t ++ (codes ",\"procs\":" ++ (procedures_text t ++ (codes ",\"tree\":" ++ (tree_text t ++ codes "}")))))))))
    ≡ trail_text t
unfolding serde_json_on_literals
members t = refl

pub whole : (old : List ℕ) (t : TrailValue)
    → ((((((((((old ++ codes "{\"calls\":") ++ calls_text t) ++ codes ",\"end\":") ++ ends_text t) ++ codes ",\"events\":") ++ events_text t) ++ codes ",\"procs\":") ++ procedures_text t) ++ codes ",\"tree\":")
    ++ tree_text t)
    ++ codes "}" ≡ old ++ trail_text t
whole old t =
    regroup old (codes "{\"calls\":") (calls_text t) (codes ",\"end\":") (ends_text t) (codes ",\"events\":") (events_text t) (codes ",\"procs\":") (procedures_text t) (codes ",\"tree\":") (tree_text t) (codes "}")
    ∙ ap (λ l. old ++ l) (members t)
