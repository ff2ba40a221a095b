use Rattle.std.proofs.Common.{string_bytes, bytes_eq, ap, ◌∙◌, ◌≡◌, ◌++◌, ◌∷◌, [], None, OnOk, map}
use Rattle.std.proofs.lemmas.List.{map-append, length-map}
use Rattle.std.specs.Arc.{arc_value}
use Rattle.std.specs.Map.{lookup}
use Rattle.std.proofs.lemmas.Result.{on_ok_weaker}
use Rattle.indexmap.proofs.CallerLemmas.{insert_entry-new}
use Rattle.tl_procedures.specs.Names.{Named, number_of, naming_refusal}
use Rattle.tl_procedures.proofs.Naming.{named, new_name, free_number, kept_free}
use Rattle.tl_procedures.proofs.procedures.Procedures.put_last.Goals as goal

-- the pair is appended
more : (c : goal.Joined-insert-2) → OnOk c.insert.result (map (named string_bytes arc_value) c.insert.new.self.entries
    ≡ map (named string_bytes arc_value) c.self.inside.by_name.entries ++ record { name = c.args.name.now; code = arc_value c.args.procedure } ∷ [])
more c =
    let unknown : number_of (map (named string_bytes arc_value) c.self.inside.by_name.entries) (string_bytes c.in_ok-name.name) ≡ None =
    rw (c.in_ok-name.ensures.ok, c.self.view_is) (free_number c.args.self.now c.args.name.now c.requires).0 in
    let fresh : lookup (λ k. bytes_eq (string_bytes c.in_ok-name.name) (string_bytes k)) c.self.inside.by_name.entries ≡ None =
    new_name string_bytes arc_value (string_bytes c.in_ok-name.name) c.self.inside.by_name.entries unknown in
    on_ok_weaker c.insert.result (λ entries.
    ap (map (named string_bytes arc_value)) (entries ∙ insert_entry-new (λ x y. bytes_eq (string_bytes x) (string_bytes y)) c.self.inside.by_name c.in_ok-name.name c.args.procedure fresh)
    ∙ map-append (named string_bytes arc_value) c.self.inside.by_name.entries ((c.in_ok-name.name, c.args.procedure) ∷ [])
    ∙ (λ i. map (named string_bytes arc_value) c.self.inside.by_name.entries ++ record { name = c.in_ok-name.ensures.ok i; code = arc_value c.args.procedure } ∷ [])) c.insert.ensures.entries

pub invariant_of-self : goal.invariant_of-self
invariant_of-self c =
    let p : Named = record { name = c.args.name.now; code = arc_value c.args.procedure } in
    let free : naming_refusal (map (named string_bytes arc_value) c.self.inside.by_name.entries) c.args.name.now ≡ None = rw c.self.view_is c.requires in
    kept_free c.insert.result c.self.inside.by_name.entries c.insert.new.self.entries (map (named string_bytes arc_value)) p c.self.invariant
    (length-map c.self.inside.by_name.entries (named string_bytes arc_value)) (length-map c.insert.new.self.entries (named string_bytes arc_value)) free (more c) c.insert.ensures.err

pub returns-in-Ok-clause-last : goal.returns-in-Ok-clause-last
returns-in-Ok-clause-last c =
    let last = more c in
    let is = c.in-Ok.is in
    (rw is at last) ∙ (λ i. c.self.view_is i ++ record { name = c.args.name.now; code = arc_value c.args.procedure } ∷ [])
