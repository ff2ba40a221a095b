-- What an auditor's answer says about a trail.
use Rattle.std.specs.Prelude.{◌≡◌, ◌≢◌, ℕ, ◌<◌, length, map, Some, Result, IfOk, IfErr, MatchResult}
use Rattle.tl_tree_locking.specs.Alone.{serial}
use Rattle.tl_tree_locking.specs.Obeys.{Obeys}
use Rattle.tl_tree_locking.specs.Order.{placed, Agrees}
use Rattle.tl_tree_locking.specs.World.{Legal, reply_of}
use Rattle.tl_serial_order.specs.Order.{OrderValue}
use Rattle.tl_trail.specs.Trails.{TrailValue, call_at, found_alone, meaning_of, world_of}
use Rattle.tl_trail.specs.Clean.{Clean}
use Rattle.tl_audit.specs.Findings.{IsFirstFault}
use Rattle.tl_audit.specs.declared.fault.AuditFault.{AuditFault}
use Rattle.tl_audit.specs.declared.fault.AuditFault.TheVariants.{Memory}

-- If the trail is clean, the answer is the order that its events determine; otherwise it is the first fault. In both
-- cases it may be a fault of memory instead. The last six fields say what an order as the answer implies, whoever wrote
-- the trail.
pub record IsVerdict (t : TrailValue) (answer : Result OrderValue AuditFault) : Type 0 where
  pub clean : IfOk answer (λ _. Clean t)
  pub order : IfOk answer (λ o. o.calls ≡ placed t.parents t.past)
  pub fault : IfErr answer (λ f. f ≢ Memory → IsFirstFault t f)
  pub only : Clean t → MatchResult answer (λ o. o.calls ≡ placed t.parents t.past) (λ f. f ≡ Memory)
  pub legal : IfOk answer (λ _. Legal (world_of t))
  pub obeys : IfOk answer (λ _. (c : ℕ) → c < length t.calls → Obeys t.parents (found_alone t c).actions)
  pub agrees : IfOk answer (λ o. Agrees o.calls t.past)
  pub tree : IfOk answer (λ o. (serial (meaning_of t) o.calls t.opening).tree ≡ t.ends)
  pub replies : IfOk answer (λ o. (serial (meaning_of t) o.calls t.opening).replies ≡ map (reply_of (world_of t)) o.calls)
  pub told : IfOk answer (λ _. (c : ℕ) → c < length t.calls → (call_at t c).reply ≡ Some (reply_of (world_of t) c))
