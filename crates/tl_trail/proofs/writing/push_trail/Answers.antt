use Rattle.std.proofs.Common.{◌≡◌, ◌≤◌, ◌++◌, ℕ, [], length, map, reverse, codes, Ok, ap, ◌∙◌, subst, string_bytes, arith}
use Rattle.std.specs.Prelude.{All}
use Rattle.serde_json.specs.Written.{compact_text}
use Rattle.tl_tree.specs.Trees.{TreeValue, IsRecord}
use Rattle.tl_tree.specs.declared.record.Width.TheVariants.{Wide}
use Rattle.tl_tree.specs.Reading.{tree_at}
use Rattle.tl_tree.specs.Writing.{records_data, tree_data}
use Rattle.tl_procedures.specs.Names.{AreFreeAfter}
use Rattle.tl_json.specs.Lists.{list_data}
use Rattle.tl_json.specs.Events.{event_data, HasRecord}
use Rattle.tl_json.specs.Procedures.{procedure_data, AreAccepted}
use Rattle.tl_json.proofs.Texts.{pushed, ok_so}
use Rattle.tl_trail.specs.ReadsBack.{IsReadBack}
use Rattle.tl_trail.proofs.TextParts.{calls_text, ends_text, events_text, procedures_text, tree_text, whole}
use Rattle.tl_trail.proofs.writing.push_trail.Goals as goal

pub returns-clause-text : goal.returns-clause-text
returns-clause-text c =
    let t = c.args.trail.now in
    let old = string_bytes c.args.text.now in
    let calls = (old ++ codes "{\"calls\":") ++ calls_text t in
    let ends = (calls ++ codes ",\"end\":") ++ ends_text t in
    let events = (ends ++ codes ",\"events\":") ++ events_text t in
    let procedures = (events ++ codes ",\"procs\":") ++ procedures_text t in
    let tree = (procedures ++ codes ",\"tree\":") ++ tree_text t in
    let calls_key : string_bytes c.push_str.new.self ≡ old ++ codes "{\"calls\":" = c.in_ok-push_str.ensures.bytes in
    let calls_in : string_bytes c.push_calls.new.text ≡ calls = c.in_ok-push_calls.ensures.added.text ∙ ap (λ l. l ++ calls_text t) calls_key in
    let ends_key : string_bytes c.push_str-2.new.self ≡ calls ++ codes ",\"end\":" = c.in_ok-push_str-2.ensures.bytes ∙ ap (λ l. l ++ codes ",\"end\":") calls_in in
    let ends_in : string_bytes c.push_list.new.text ≡ ends =
    c.in_ok-push_list.ensures.text ∙ ap (λ l. l ++ compact_text (records_data c.ends.result.now)) ends_key ∙ ap (λ rs. (calls ++ codes ",\"end\":") ++ compact_text (records_data rs)) c.ends.ensures.records in
    let events_key : string_bytes c.push_str-3.new.self ≡ ends ++ codes ",\"events\":" = c.in_ok-push_str-3.ensures.bytes ∙ ap (λ l. l ++ codes ",\"events\":") ends_in in
    let events_in : string_bytes c.push_list-2.new.text ≡ events =
    c.in_ok-push_list-2.ensures.text ∙ ap (λ l. l ++ compact_text (list_data (map event_data c.events.result.now))) events_key
    ∙ ap (λ es. (ends ++ codes ",\"events\":") ++ compact_text (list_data (map event_data es))) c.events.ensures in
    let procedures_key : string_bytes c.push_str-4.new.self ≡ events ++ codes ",\"procs\":" = c.in_ok-push_str-4.ensures.bytes ∙ ap (λ l. l ++ codes ",\"procs\":") events_in in
    let procedures_in : string_bytes c.push_procedures.new.text ≡ procedures =
    c.in_ok-push_procedures.ensures.added.text ∙ ap (λ l. l ++ compact_text (list_data (map procedure_data c.procedures.result.now))) procedures_key
    ∙ ap (λ ps. (events ++ codes ",\"procs\":") ++ compact_text (list_data (map procedure_data ps))) c.procedures.ensures in
    let tree_key : string_bytes c.push_str-5.new.self ≡ procedures ++ codes ",\"tree\":" = c.in_ok-push_str-5.ensures.bytes ∙ ap (λ l. l ++ codes ",\"tree\":") procedures_in in
    let tree_in : string_bytes c.push_tree.new.text ≡ tree =
    c.in_ok-push_tree.ensures.added.text ∙ ap (λ l. l ++ compact_text (tree_data c.opening.result.now)) tree_key
    ∙ ap (λ x. (procedures ++ codes ",\"tree\":") ++ compact_text (tree_data x)) c.opening.ensures.tree in
    pushed c.push_str-6.result _ _ (codes "}") _ c.push_str-6.ensures.bytes (ap (λ l. l ++ codes "}") tree_in ∙ whole old t)

pub returns-clause-writable : goal.returns-clause-writable
returns-clause-writable c =
    let t = c.args.trail.now in
    let within = c.len-fact.ensures.within.within in
    let most = c.len-fact.ensures.within.most in
    let same : length c.history.result.now.past ≡ length t.past = ap length c.history.ensures.past in
    let few : length t.past ≤ 1048576 = omega (arith, within, most, same) in
    let ends : All IsRecord t.ends = subst (All IsRecord) c.ends.ensures.records c.in_ok-push_list.ensures.fit in
    let events : All HasRecord (reverse t.past) = subst (All HasRecord) c.events.ensures c.in_ok-push_list-2.ensures.fit in
    let free : AreFreeAfter [] t.procedures = subst (AreFreeAfter []) c.procedures.ensures c.in_ok-push_procedures.ensures.free in
    let accepted : AreAccepted t.procedures = subst AreAccepted c.procedures.ensures c.in_ok-push_procedures.ensures.accepted in
    let procedures : IsReadBack (list_data (map procedure_data t.procedures)) = subst (λ ps. IsReadBack (list_data (map procedure_data ps))) c.procedures.ensures c.in_ok-push_procedures.ensures.added.back in
    let opening = c.opening.ensures.tree in
    let tree = subst (λ (x : TreeValue). (limit : ℕ) → length x.parents ≤ limit → tree_at limit Wide (tree_data x) ≡ Ok x) opening c.in_ok-push_tree.ensures.reads_back in
    let tree_back = subst (λ x. IsReadBack (tree_data x)) opening c.in_ok-push_tree.ensures.added.back in
    ok_so c.push_str-6.result _
    (record {
      trail = c.opening.ensures.trail;
      free = free;
      accepted = accepted;
      calls = c.in_ok-push_calls.ensures.told;
      events = events;
      few = few;
      ends = ends;
      tree = tree;
      calls_back = c.in_ok-push_calls.ensures.added.back;
      procedures_back = procedures;
      tree_back = tree_back;
    })
