-- A core that is replayed.
use Rattle.std.specs.Prelude.{◌≡◌, ℕ, ◌<◌, ◌≤◌, List, ◌++◌, length, map, reverse, Some, slice_get, string_bytes}
use Rattle.tl_tree_locking.specs.History.{caller}
use Rattle.tl_procedures.specs.declared.request.Request.{Request}
use Rattle.tl_procedures.specs.Names.{number_of}
use Rattle.tl_core.specs.Cores.{CoreValue, call_of}
use Rattle.tl_core.specs.Entries.{procedure_at}
use Rattle.tl_core.specs.Reached.{IsReached}

-- the call is of the request's procedure with its arguments
pub record IsAsked (v : CoreValue) (c : ℕ) (r : Request) : Type 0 where
  pub procedure : number_of v.procedures (string_bytes r.name) ≡ Some (call_of v c).procedure
  pub code : (call_of v c).code ≡ (procedure_at v (call_of v c).procedure).code
  pub args : (call_of v c).args ≡ r.args.items

-- the calls are the first of the requests, in order
pub record Fits (v : CoreValue) (requests : List Request) : Type 0 where
  pub few : length v.calls ≤ length requests
  pub each : (c : ℕ) (r : Request) → c < length v.calls → slice_get requests c ≡ Some r → IsAsked v c r

-- the second core has the same tree, procedures and limit
pub record GoesOn (v w : CoreValue) : Type 0 where
  pub parents : w.parents ≡ v.parents
  pub opening : w.opening ≡ v.opening
  pub procedures : w.procedures ≡ v.procedures
  pub limit : w.limit ≡ v.limit

-- A core of the same tree and procedures as the core v, and at least its limit, has come to `now`. The requests are those
-- of the calls of v, and the turns are those that these calls took in v after the ones that they took in `now`.
pub record AreTurnsTo (v now : CoreValue) (requests : List Request) (turns : List ℕ) : Type 0 where
  pub reached : IsReached v
  pub parents : now.parents ≡ v.parents
  pub opening : now.opening ≡ v.opening
  pub procedures : now.procedures ≡ v.procedures
  pub limit : v.limit ≤ now.limit
  pub asked : Fits v requests
  pub asked_now : Fits now requests
  pub took : map caller v.past ≡ reverse turns ++ map caller now.past
