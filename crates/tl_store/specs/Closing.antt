-- The rows that complete a store after a recovery.
use Rattle.std.specs.Prelude.{◌≡◌, ◌+◌, ◌<◌, ◌⊎◌, ℕ, ℤ, pos, List, [], ◌∷◌, ◌++◌, All, Any, map, length, reverse, true}
use Rattle.tl_tree_locking.specs.History.{caller, is_done, records_now}
use Rattle.tl_core.specs.Cores.{CoreValue}
use Rattle.tl_ledger.specs.declared.committing.Marks.{Marks}
use Rattle.tl_ledger.specs.declared.news.News.{News}
use Rattle.tl_ledger.specs.declared.rows.ReplyRow.{ReplyRow}
use Rattle.tl_ledger.specs.declared.rows.SealRow.{SealRow}
use Rattle.tl_store.specs.declared.stored.Stored.{Stored}
use Rattle.tl_rows.specs.Rows.{turn_bytes, all_turn_bytes}
use Rattle.tl_store.specs.Recovered.{IsReplyOf}
use Rattle.tl_rows.specs.Changes.{Leads}

-- a row has a reply of the call
abbrev pub HasReply : List ReplyRow → ℕ → Type 0
HasReply rows c = Any (λ r. r.call ≡ pos c) rows

-- the row has the reply of a call that has none among the stored rows
pub record IsLateReply (v : CoreValue) (epoch : ℤ) (stored : List ReplyRow) (row : ReplyRow) : Type 0 where
  pub right : IsReplyOf v epoch row
  pub late : HasReply stored right.call → ⊥

-- Each of these rows has a reply that isn't stored. Each done call among the first n has a stored reply or one of these.
pub record AreLateReplies (n : ℕ) (v : CoreValue) (epoch : ℤ) (stored late : List ReplyRow) : Type 0 where
  pub each : All (IsLateReply v epoch stored) late
  pub whole : (c : ℕ) → c < n → is_done c v.past ≡ true → HasReply stored c ⊎ HasReply late c

-- the seal has the counts of the marks, with this many more turns and replies
pub record IsSealOf (m : Marks) (turns replies : ℕ) (seal : SealRow) : Type 0 where
  pub procedures : seal.procedures ≡ pos m.procedures
  pub calls : seal.calls ≡ pos m.calls
  pub all_turns : seal.turns ≡ pos (m.turns + turns)
  pub all_replies : seal.replies ≡ pos (m.replies + replies)

-- With these rows the store has all turns of the core and all replies of its done calls. Their changed records lead from
-- the core's opening to its current records, and they seal its epoch.
pub record IsClosing (s : Stored) (v : CoreValue) (n : News) : Type 0 where
  pub nodes : n.nodes.items ≡ []
  pub procedures : n.procedures.items ≡ []
  pub calls : n.calls.items ≡ []
  pub epoch : All (λ r. r.epoch ≡ pos s.marks.seals) n.turns.items
  pub turns : all_turn_bytes s.turns.items ++ all_turn_bytes n.turns.items ≡ turn_bytes (reverse (map caller v.past))
  pub replies : AreLateReplies (length v.calls) v (pos s.marks.seals) s.replies.items n.replies.items
  pub records : Leads v.opening (records_now v.past v.opening) n.records.items
  pub seal : SealRow
  pub seals : n.seals.items ≡ seal ∷ []
  pub counts : IsSealOf s.marks (length n.turns.items) (length n.replies.items) seal
