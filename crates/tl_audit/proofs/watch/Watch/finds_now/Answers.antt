use Rattle.std.proofs.Common.{◌≡◌, ◌<◌, [], length, sym, ap, ◌∙◌, subst, arith}
use Rattle.std.specs.Prelude.{IsTrue, ◌↔◌}
use Rattle.std.specs.Cmp.Rules.{signed_items}
use Rattle.std.proofs.lemmas.List.{get_or_read}
use Rattle.tl_tree.specs.Records.{record_at}
use Rattle.tl_tree_locking.specs.History.{record_now}
use Rattle.tl_tree_locking.proofs.Records.{record_at-records_now, length-records_now}
use Rattle.tl_serial_order.specs.Checked.{calls_of, IsEventOf}
use Rattle.tl_trail.specs.Clean.{FindsNow}
use Rattle.tl_audit.proofs.watch.Watch.finds_now.Goals as goal

pub returns-in-Lock : goal.returns-in-Lock
returns-in-Lock c parents opening calls past shows =
    let records = c.args.self.now.records.items in
    let node = c.in-Lock.node in
    let event = subst (IsEventOf (length records) (calls_of c.args.self.now.order)) c.in-Lock.is c.requires in
    let inside' = event.node in
    let here : node < length records = omega arith in
    let read = get_or_read records node c.index.result.now here c.index.ensures [] in
    let long : length records ≡ length opening = ap length shows.latest ∙ length-records_now past opening in
    let in_tree : node < length opening = omega arith in
    let is : c.index.result.now ≡ record_now past opening node =
    read ∙ ap (λ rs. record_at rs node) shows.latest ∙ record_at-records_now past opening node in_tree in
    let d = signed_items c.in-Lock.found c.index.result.now in
    subst (λ e. IsTrue c.eq.result ↔ FindsNow opening past e) (sym c.in-Lock.is)
    (λ t. d.0 (sym c.eq.ensures ∙ t) ∙ is, λ same. c.eq.ensures ∙ d.1 (same ∙ sym is))
