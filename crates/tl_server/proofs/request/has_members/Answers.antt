use Rattle.std.proofs.Common.{◌∙◌, ap, sym, false, nat_eq, option_map}
use Rattle.std.specs.Prelude.{unwrap_or}
use Rattle.serde_json.specs.Events.{members_len}
use Rattle.serde_json.proofs.Views.{members_len-members_view}
use Rattle.tl_server.proofs.request.has_members.Goals as goal

pub returns-in-Some : goal.returns-in-Some
returns-in-Some c =
    let entries = c.in-Some.members.now.entries in
    ap (λ n. nat_eq n c.args.count) (c.len.ensures.len ∙ sym (members_len-members_view entries)) ∙ ap (λ o. unwrap_or (option_map (λ ms. nat_eq (members_len ms) c.args.count) o) false) c.in-Some.ensures
