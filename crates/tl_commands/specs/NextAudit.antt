-- The output of the audit of one more file, where several files belong together, and its faults.
use Rattle.std.specs.Prelude.{◌≡◌, ◌≢◌, ◌⊎◌, ℕ, Bool, true, false, List, [], ◌∷◌, ◌++◌, map, Option, IsUtf8}
use Rattle.serde_json.specs.Written.{compact_text}
use Rattle.tl_json.specs.Lists.{orders_data}
use Rattle.tl_trail.specs.Trails.{TrailValue}
use Rattle.tl_trail.specs.Reading.{IsTrailText, IsFirstTrailFault}
use Rattle.tl_trail.specs.Chains.{IsChainText, IsFirstChainFault}
use Rattle.tl_trail.specs.declared.fault.TrailFault.{TrailFault}
use Rattle.tl_trail.specs.declared.fault.TrailFault.TheVariants.{NotTrail}
use Rattle.tl_audit.specs.Chains.{AfterTrail, AreSerial, CleanAfter, after_file, IsFirstAfter, last_after, order_of, AreReplacedNames}
use Rattle.tl_audit.specs.declared.chain.ChainFault.{ChainFault}
use Rattle.tl_audit.specs.declared.chain.ChainFault.TheVariants.{InEpoch}
use Rattle.tl_commands.specs.declared.fault.CliFault.{CliFault}
use Rattle.tl_commands.specs.declared.fault.CliFault.TheVariants.{Trail, Audit, Chain}
use Rattle.tl_commands.specs.Audit.{begins_with_list}
use Rattle.tl_commands.specs.Faults.{status_of}

-- the trails of a text: those of a chain if the text is a list, otherwise the only one
abbrev pub AreTrailsOf : ℕ → Bool → List ℕ → List TrailValue → Type 0
AreTrailsOf limit true bytes ts = IsChainText limit bytes ts
AreTrailsOf limit false bytes ts = (t : TrailValue) × (ts ≡ t ∷ []) × IsTrailText limit bytes t

-- the first fault of such a text
abbrev pub IsTextFault : ℕ → Bool → List ℕ → TrailFault → Type 0
IsTextFault limit true bytes f = IsFirstChainFault limit bytes f
IsTextFault limit false bytes f = IsFirstTrailFault limit bytes f

-- in a list, a fault has the number of its trail; in any other text it is the fault of the only trail
abbrev pub fault_of_file : Bool → ChainFault → CliFault
fault_of_file false (InEpoch n f) = Audit f
fault_of_file is_list f = Chain f

-- The trails of the file are clean and continue the trail before, if there is one; nodes may have been appended to the
-- tree in between. The output is the list of the orders that their events determine. All calls of the file, run alone one
-- after another in these orders, leave the end records and give their replies. The next file must continue the last
-- trail. These are the names of the procedures that were replaced before the file.
pub record AuditsNext (limit : ℕ) (before : Option TrailValue) (bytes out : List ℕ) (last : TrailValue) (names : List (List ℕ)) : Type 0 where
  pub utf8 : IsUtf8 bytes
  pub trails : List TrailValue
  pub text : AreTrailsOf limit (begins_with_list bytes) bytes trails
  pub clean : CleanAfter (after_file before) trails
  pub serial : AreSerial trails (map order_of trails)
  pub ends : last_after (after_file before) trails ≡ AfterTrail last
  pub same : out ≡ compact_text (orders_data (map order_of trails)) ++ 10 ∷ []
  pub replaced : AreReplacedNames before trails names

-- the first fault of the text
abbrev pub IsUnread : ℕ → List ℕ → CliFault → Type 0
IsUnread limit bytes e = (f : TrailFault) × (e ≡ Trail f) × IsTextFault limit (begins_with_list bytes) bytes f

-- the first fault of the text's trails: one doesn't continue the trail before it, or has a fault of its own
abbrev pub IsUnclean : ℕ → Option TrailValue → List ℕ → CliFault → Type 0
IsUnclean limit before bytes e =
    (ts : List TrailValue) × (f : ChainFault) × (e ≡ fault_of_file (begins_with_list bytes) f) × AreTrailsOf limit (begins_with_list bytes) bytes ts × IsFirstAfter 0 (after_file before) ts f

-- NotTrail if the bytes aren't UTF-8, otherwise the first fault of the text or of its trails; or lack of memory
abbrev pub IsFirstNextFault : ℕ → Option TrailValue → List ℕ → CliFault → Type 0
IsFirstNextFault limit before bytes e = status_of e ≢ 4 →
    ((e ≡ Trail NotTrail) × (IsUtf8 bytes → ⊥)) ⊎ (IsUtf8 bytes × (IsUnread limit bytes e ⊎ IsUnclean limit before bytes e))
