use Rattle.std.proofs.Common.{◌<◌, ◌≤◌, length, sym, subst}
use Rattle.tl_commands.proofs.AuditLemmas.{chain_count}
use Rattle.tl_commands.proofs.auditing.audit_chain_text.Goals as goal

pub audit_chain_with-requires-clause-some : goal.audit_chain_with-requires-clause-some
audit_chain_with-requires-clause-some g c = subst (λ l. 0 < length l) (sym c.deref.ensures.value) (chain_count c.args.limit c.args.text.now c.in-Ok.trails.items c.in-Ok.ensures.ok).0

pub audit_chain_with-requires-clause-few : goal.audit_chain_with-requires-clause-few
audit_chain_with-requires-clause-few g c = subst (λ l. length l ≤ 256) (sym c.deref.ensures.value) (chain_count c.args.limit c.args.text.now c.in-Ok.trails.items c.in-Ok.ensures.ok).1
