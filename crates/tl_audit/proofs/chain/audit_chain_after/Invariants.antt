use Rattle.std.proofs.Common.{◌≡◌, ◌≤◌, length, vec_len}
use Rattle.std.specs.Prelude.{vec_capacity, option_copied}
use Rattle.tl_audit.specs.Chains.{after_file}
use Rattle.tl_audit.proofs.ChainLemmas.{IsAuditedTo}
use Rattle.tl_audit.proofs.chain.audit_chain_after.Given as goal

abbrev pub invariant-loop-number : goal.invariant-loop-number
invariant-loop-number g l =
    IsAuditedTo (after_file (option_copied l.before)) l.trails l.number l.orders.items
    × (vec_len l.orders ≡ l.number)
    × (length l.trails ≤ vec_capacity l.orders)
