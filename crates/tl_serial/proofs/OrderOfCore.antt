-- What the order of a core's history guarantees.
use Rattle.std.proofs.Common.{◌≡◌, ℕ, ◌<◌, List, length, map, sym, subst, arith}
use Rattle.std.specs.Prelude.{All}
use Rattle.tl_tree_locking.specs.Alone.{serial}
use Rattle.tl_tree_locking.specs.History.{admits, AllDone, records_now}
use Rattle.tl_tree_locking.specs.Order.{placed, Agrees}
use Rattle.tl_tree_locking.specs.World.{IsSound, reply_of}
use Rattle.tl_tree_locking.proofs.Inside.{order_known}
use Rattle.tl_tree_locking.proofs.NoStandstill.{sound_history}
use Rattle.tl_tree_locking.proofs.PlacedAgrees.{placed-agrees}
use Rattle.tl_tree_locking.proofs.ReachedWorlds.{serial-agreeing}
use Rattle.tl_core.specs.Cores.{CoreValue, world_of}

module _ (v : CoreValue) (sound : IsSound (world_of v)) where
  pub order_agrees : (o : List ℕ) → o ≡ placed v.parents v.past → Agrees o v.past
  order_agrees o is = subst (λ o. Agrees o v.past) (sym is) (placed-agrees v.parents sound.tree v.past (sound_history (world_of v) sound))

  pub order_admitted : length v.calls ≡ admits v.past → (o : List ℕ) → o ≡ placed v.parents v.past → All (λ c. c < length v.calls) o
  order_admitted counted o is k d inside = let own = order_known (world_of v) sound o (order_agrees o is) k d inside in omega (arith, own, counted)

  pub order_tree : AllDone v.past → (o : List ℕ) → o ≡ placed v.parents v.past → (serial (world_of v).meanings o v.opening).tree ≡ records_now v.past v.opening
  order_tree over o is = (serial-agreeing (world_of v) sound over o (order_agrees o is)).0

  pub order_replies : AllDone v.past → (o : List ℕ) → o ≡ placed v.parents v.past → (serial (world_of v).meanings o v.opening).replies ≡ map (reply_of (world_of v)) o
  order_replies over o is = (serial-agreeing (world_of v) sound over o (order_agrees o is)).1
