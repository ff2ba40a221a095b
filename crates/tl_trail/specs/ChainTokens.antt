-- The trails of a chain as tokens.
use Rattle.std.specs.Prelude.{◌≡◌, ◌≢◌, ◌+◌, ◌<◌, nat_le, ℕ, List, length, Some, if◌then◌else◌}
use Rattle.json.specs.Token.{Token}
use Rattle.json.specs.Json.{items, value}
use Rattle.serde_json.specs.Data.{Data, Items}
use Rattle.serde_json.specs.Read.{of_json, of_items, converted}
use Rattle.tl_json.specs.Lists.{items_of_list}
use Rattle.tl_trail.specs.Trails.{TrailValue}
use Rattle.tl_trail.specs.Reading.{form_of_data, IsFound}
use Rattle.tl_trail.specs.Chains.{AreEach, IsChainText, IsFirstChainFault, IsFaultOfChain, if_chain}
use Rattle.tl_trail.specs.declared.chain.TheConstants.{MAX_TRAILS}
use Rattle.tl_trail.specs.declared.chain.Listed.{Listed}
use Rattle.tl_trail.specs.declared.chain.Listed.TheVariants.{Trails, Faulty, Unread}
use Rattle.tl_trail.specs.declared.fault.TrailFault.{TrailFault}
use Rattle.tl_trail.specs.declared.fault.TrailFault.TheVariants.{NotTrail, Memory}
use Rattle.tl_trail.specs.Tokens.{trail_depth}

-- the tokens begin with the value of this trail; the rest follows
pub record BeginsWithTrail (limit : ℕ) (ts : List Token) (t : TrailValue) (rest : List Token) : Type 0 where
  pub found : Data
  pub is_value : converted of_json (value trail_depth ts) ≡ Some (found, rest)
  pub is_trail : IsFound limit (form_of_data found) t
  pub shorter : length rest < length ts

-- the tokens begin with the values of these trails, up to the end of their list
pub record BeginsWithTrails (limit : ℕ) (ts : List Token) (each : List TrailValue) (rest : List Token) : Type 0 where
  pub found : Items
  pub are_items : converted of_items (items (value trail_depth) (length ts) ts) ≡ Some (found, rest)
  pub are_trails : AreEach limit (items_of_list found) each
  pub shorter : length rest < length ts

-- the tokens begin with values up to the end of their list, and this is their first fault
pub record BeginsWithFault (limit : ℕ) (ts : List Token) (e : TrailFault) (rest : List Token) : Type 0 where
  pub found : Items
  pub are_items : converted of_items (items (value trail_depth) (length ts) ts) ≡ Some (found, rest)
  pub is_fault : IsFaultOfChain limit (if_chain (items_of_list found)) e

-- the result of reading the values up to the end of their list; nothing is required if one of them can't be read
abbrev pub IsListed : ℕ → List Token → Listed → List Token → Type 0
IsListed limit ts (Trails v) rest = BeginsWithTrails limit ts v.items rest × (0 < length v.items) × (length v.items < MAX_TRAILS + 1)
IsListed limit ts (Faulty e) rest = e ≢ Memory → BeginsWithFault limit ts e rest
IsListed limit ts Unread rest = Unit {0}

-- the same for the list that a text contains
abbrev pub IsListedIn : ℕ → List ℕ → Listed → Type 0
IsListedIn limit text (Trails v) = IsChainText limit text v.items
IsListedIn limit text (Faulty e) = e ≢ Memory → IsFirstChainFault limit text e
IsListedIn limit text Unread = Unit {0}

-- `count` values were read, and the fault is theirs. The rest of the list is read too. If there are more than MAX_TRAILS
-- values in all, the fault is NotTrail instead.
abbrev pub IsLeftBehind : List Token → ℕ → TrailFault → Listed → List Token → Type 0
IsLeftBehind ts count fault (Trails v) rest = ⊥
IsLeftBehind ts count fault (Faulty e) rest =
    (found : Items) × (converted of_items (items (value trail_depth) (length ts) ts) ≡ Some (found, rest))
    × (e ≡ (if nat_le (count + length (items_of_list found)) MAX_TRAILS then fault else NotTrail))
IsLeftBehind ts count fault Unread rest = Unit {0}
