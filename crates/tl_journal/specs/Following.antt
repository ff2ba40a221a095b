-- Why a follower gets nothing, as the server says it.
use Rattle.std.specs.Prelude.{ℕ, List, [], ◌∷◌}
use Rattle.sqlite_trees.specs.declared.error.StoreError.TheVariants.{OutOfMemory}
use Rattle.tl_follow.specs.declared.fault.FollowFault.{FollowFault}
use Rattle.tl_follow.specs.declared.fault.FollowFault.TheVariants as fault
use Rattle.tl_ledger.specs.declared.committing.Marks.{Marks}
use Rattle.tl_ledger.specs.declared.reading.ReadFault.TheVariants.{Store, NotRows}
use Rattle.tl_server.specs.declared.follow.FollowRefusal.{FollowRefusal}
use Rattle.tl_server.specs.declared.follow.FollowRefusal.TheVariants as refusal

abbrev pub refusal_of : FollowFault → FollowRefusal
refusal_of fault.NotThere = refusal.NotThere
refusal_of (fault.Unread (NotRows table)) = refusal.BadRow table
refusal_of (fault.Unread (Store OutOfMemory)) = refusal.Memory
refusal_of (fault.Unread (Store name)) = refusal.Broken

-- how many rows of each table
abbrev pub counts : Marks → List ℕ
counts m = m.nodes ∷ m.procedures ∷ m.calls ∷ m.turns ∷ m.replies ∷ m.seals ∷ []
