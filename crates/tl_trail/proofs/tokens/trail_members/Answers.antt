use Rattle.std.proofs.Common.{◌≡◌, codes, map, Some, None}
use Rattle.json.specs.Json.{read_key}
use Rattle.serde_json.specs.View.{view}
use Rattle.tl_tree.specs.Reading.{records_of}
use Rattle.tl_json.specs.Lists.{each_of}
use Rattle.tl_json.specs.Procedures.{procedure_form, procedure_of}
use Rattle.tl_json.specs.Events.{event_of}
use Rattle.tl_trail.specs.Raw.{call_form}
use Rattle.tl_trail.specs.Reading.{call_of}
use Rattle.tl_trail.specs.Tokens.{BeginsWithMember}
use Rattle.tl_trail.specs.TrailTokens.{IsFirstWidth}
use Rattle.tl_trail.proofs.TrailTokenLemmas.{trail_of_members}
use Rattle.tl_trail.proofs.tokens.trail_members.Goals as goal

pub returns : goal.returns
returns c =
    let ts = c.args.reader.now in
    let t1 = c.list_member.new.reader in
    let t2 = c.member.new.reader in
    let t3 = c.events_member.new.reader in
    let t4 = c.list_member-2.new.reader in
    let t5 = c.member-2.new.reader in
    let width = c.in-Some-3.width in
    let ends = view c.in-Some-2.ends in
    let calls : BeginsWithMember (codes "calls") (each_of call_of) ts (map call_form c.in-Some.calls.items) t1 = rw c.in-Some.is at c.in_ok-calls.ensures in
    let ends_value : BeginsWithMember (codes "end") Some t1 (view c.in-Some-2.ends) t2 = rw c.in-Some-2.is at c.in_ok-ends.ensures in
    let ends_are : IsFirstWidth (view c.in-Some-2.ends) c.in-Some-3.width × (records_of c.in-Some-3.width (view c.in-Some-2.ends) ≡ Some c.in-Some-3.ends.items) = rw c.in-Some-3.is at c.in_ok-width.ensures in
    let events : BeginsWithMember (codes "events") (each_of (event_of c.in-Some-3.width)) t2 c.in-Some-4.events.items t3 = rw c.in-Some-4.is at c.in_ok-events.ensures in
    let procedures : BeginsWithMember (codes "procs") (each_of procedure_of) t3 (map procedure_form c.in-Some-5.procedures.items) t4 = rw c.in-Some-5.is at c.in_ok-procedures.ensures in
    let tree_value : BeginsWithMember (codes "tree") Some t4 (view c.in-Some-6.tree) t5 = rw c.in-Some-6.is at c.in_ok-tree.ensures in
    let end : read_key t5 ≡ Some (None, c.next_key.new.self) = rw c.in-Ok-None.field-0-is at c.in-Ok-None.ensures.value in
    trail_of_members c.args.limit ts t1 t2 t3 t4 t5 c.next_key.new.self width (record { procedures = c.in-Some-5.procedures; calls = c.in-Some.calls; events = c.in-Some-4.events; ends = c.in-Some-3.ends }) c.in-Ok.tree
    ends (view c.in-Some-6.tree) calls ends_value ends_are.0 ends_are.1 events procedures tree_value c.in-Ok.ensures.ok end
