-- The faults of trails and chains, as numbers.
use Rattle.std.specs.Prelude.{ℕ, List, [], ◌∷◌}
use Rattle.tl_audit.specs.declared.fault.AuditFault.{AuditFault}
use Rattle.tl_audit.specs.declared.fault.AuditFault.TheVariants as audit
use Rattle.tl_audit.specs.declared.chain.ChainFault.{ChainFault}
use Rattle.tl_audit.specs.declared.chain.ChainFault.TheVariants as chain

-- the number of a trail's fault, followed by the event, the call or the node
abbrev pub audit_numbers_of : AuditFault → List ℕ
audit_numbers_of (audit.RuleBroken event) = 711 ∷ event ∷ []
audit_numbers_of (audit.Overlap event) = 712 ∷ event ∷ []
audit_numbers_of (audit.WrongFound event) = 713 ∷ event ∷ []
audit_numbers_of (audit.NotGenuine call) = 714 ∷ call ∷ []
audit_numbers_of (audit.Unfinished call) = 715 ∷ call ∷ []
audit_numbers_of (audit.WrongEnd node) = 716 ∷ node ∷ []
audit_numbers_of (audit.WrongReply call) = 717 ∷ call ∷ []
audit_numbers_of audit.Memory = 790 ∷ []

-- the number of a chain's fault, followed by the trail and the numbers of the trail's fault
abbrev pub chain_numbers_of : ChainFault → List ℕ
chain_numbers_of (chain.Broken epoch) = 718 ∷ epoch ∷ []
chain_numbers_of (chain.InEpoch epoch f) = 719 ∷ epoch ∷ audit_numbers_of f
chain_numbers_of chain.Memory = 790 ∷ []
