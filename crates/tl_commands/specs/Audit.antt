-- The output of the command `audit`, and its faults.
use Rattle.std.specs.Prelude.{◌≡◌, ◌≢◌, ◌⊎◌, ℕ, ◌==◌, ◌||◌, Bool, true, false, List, [], ◌∷◌, ◌++◌, map, if◌then◌else◌, IsUtf8}
use Rattle.serde_json.specs.Written.{compact_text}
use Rattle.tl_tree_locking.specs.Order.{placed}
use Rattle.tl_trail.specs.Trails.{TrailValue}
use Rattle.tl_trail.specs.Reading.{IsTrailText, IsFirstTrailFault}
use Rattle.tl_trail.specs.Chains.{IsChainText}
use Rattle.tl_trail.specs.Chains as chains
use Rattle.tl_trail.specs.Clean.{Clean}
use Rattle.tl_audit.specs.Findings.{IsFirstFault}
use Rattle.tl_audit.specs.Chains.{IsCleanChain, IsFirstChainFault, AreSerial, order_of}
use Rattle.tl_trail.specs.declared.fault.TrailFault.{TrailFault}
use Rattle.tl_trail.specs.declared.fault.TrailFault.TheVariants.{NotTrail}
use Rattle.tl_audit.specs.declared.fault.AuditFault.{AuditFault}
use Rattle.tl_audit.specs.declared.chain.ChainFault.{ChainFault}
use Rattle.tl_commands.specs.declared.fault.CliFault.{CliFault}
use Rattle.tl_commands.specs.declared.fault.CliFault.TheVariants.{Trail, Audit, Chain}
use Rattle.tl_commands.specs.Faults.{status_of}
use Rattle.tl_json.specs.Lists.{order_data, orders_data}

-- the first byte that isn't white space is a bracket
abbrev pub begins_with_list : List ℕ → Bool
begins_with_list [] = false
begins_with_list (b ∷ bs) = if (b == 32) || (b == 9) || (b == 10) || (b == 13) then begins_with_list bs else b == 91

-- The trail is clean, and the output is the order that its events determine.
pub record AuditsTrail (limit : ℕ) (bytes out : List ℕ) : Type 0 where
  pub trail : TrailValue
  pub text : IsTrailText limit bytes trail
  pub clean : Clean trail
  pub same : out ≡ compact_text (order_data (placed trail.parents trail.past)) ++ 10 ∷ []

-- The chain is clean, and the output is the list of the orders that its trails' events determine. All calls, run alone
-- one after another in these orders joined, leave the end records and give their replies.
pub record AuditsChain (limit : ℕ) (bytes out : List ℕ) : Type 0 where
  pub trails : List TrailValue
  pub text : IsChainText limit bytes trails
  pub clean : IsCleanChain trails
  pub serial : AreSerial trails (map order_of trails)
  pub same : out ≡ compact_text (orders_data (map order_of trails)) ++ 10 ∷ []

-- the audit of a chain if the text is a list, otherwise of a trail
abbrev pub AuditsText : ℕ → Bool → List ℕ → List ℕ → Type 0
AuditsText limit true bytes out = AuditsChain limit bytes out
AuditsText limit false bytes out = AuditsTrail limit bytes out

-- the bytes are UTF-8; they are a chain if they begin with a bracket, otherwise a trail
pub record Audits (limit : ℕ) (bytes out : List ℕ) : Type 0 where
  pub utf8 : IsUtf8 bytes
  pub answer : AuditsText limit (begins_with_list bytes) bytes out

-- the first fault of the text, or otherwise of the trail; or lack of memory
abbrev pub IsFirstTrailAuditFault : ℕ → List ℕ → CliFault → Type 0
IsFirstTrailAuditFault limit bytes e = status_of e ≢ 4 →
    ((f : TrailFault) × (e ≡ Trail f) × IsFirstTrailFault limit bytes f)
    ⊎ ((t : TrailValue) × (f : AuditFault) × (e ≡ Audit f) × IsTrailText limit bytes t × IsFirstFault t f)

-- the first fault of the text, or otherwise of the chain; or lack of memory
abbrev pub IsFirstChainAuditFault : ℕ → List ℕ → CliFault → Type 0
IsFirstChainAuditFault limit bytes e = status_of e ≢ 4 →
    ((f : TrailFault) × (e ≡ Trail f) × chains.IsFirstChainFault limit bytes f)
    ⊎ ((ts : List TrailValue) × (f : ChainFault) × (e ≡ Chain f) × IsChainText limit bytes ts × IsFirstChainFault ts f)

-- the fault of a chain if the text is a list, otherwise of a trail
abbrev pub IsFirstTextFault : ℕ → Bool → List ℕ → CliFault → Type 0
IsFirstTextFault limit true bytes e = IsFirstChainAuditFault limit bytes e
IsFirstTextFault limit false bytes e = IsFirstTrailAuditFault limit bytes e

-- NotTrail if the bytes aren't UTF-8, otherwise the first fault of the text
abbrev pub IsFirstAuditFault : ℕ → List ℕ → CliFault → Type 0
IsFirstAuditFault limit bytes e =
    ((e ≡ Trail NotTrail) × (IsUtf8 bytes → ⊥))
    ⊎ (IsUtf8 bytes × IsFirstTextFault limit (begins_with_list bytes) bytes e)
