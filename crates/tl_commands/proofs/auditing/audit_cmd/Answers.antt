use Rattle.std.proofs.Common.{rules, ◌≡◌, true, false, IsUtf8, subst}
use Rattle.std.proofs.lemmas.Result.{IfErr-weaker}
use Rattle.tl_commands.specs.Audit.{begins_with_list, IsFirstChainAuditFault, IsFirstTrailAuditFault, IsFirstAuditFault}
use Rattle.tl_commands.proofs.AuditLemmas.{of_chain, of_trail}
use Rattle.tl_commands.proofs.auditing.audit_cmd.Goals as goal

pub returns-else-begins_with_list-clause-fault : goal.returns-else-begins_with_list-clause-fault
returns-else-begins_with_list-clause-fault g c =
    let file = c.args.file.now in
    let text = c.in-Ok.text.now in
    let same : text ≡ file = search rules in
    let utf8 : IsUtf8 file = search rules in
    let other : begins_with_list file ≡ false = search rules in
    IfErr-weaker c.audit_trail_text.result (λ e. IsFirstTrailAuditFault c.args.limit text e) (λ e. IsFirstAuditFault c.args.limit file e)
    (λ e wrong. of_trail c.args.limit file e utf8 other (subst (λ b. IsFirstTrailAuditFault c.args.limit b e) same wrong)) c.audit_trail_text.ensures.fault

pub returns-then-begins_with_list-clause-fault : goal.returns-then-begins_with_list-clause-fault
returns-then-begins_with_list-clause-fault g c =
    let file = c.args.file.now in
    let text = c.in-Ok.text.now in
    let same : text ≡ file = search rules in
    let utf8 : IsUtf8 file = search rules in
    let list : begins_with_list file ≡ true = search rules in
    IfErr-weaker c.audit_chain_text.result (λ e. IsFirstChainAuditFault c.args.limit text e) (λ e. IsFirstAuditFault c.args.limit file e)
    (λ e wrong. of_chain c.args.limit file e utf8 list (subst (λ b. IsFirstChainAuditFault c.args.limit b e) same wrong)) c.audit_chain_text.ensures.fault
