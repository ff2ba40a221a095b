-- What came of a store's calls that had a key.
use Rattle.std.specs.Prelude.{◌≡◌, ◌≤◌, ◌<◌, ◌+◌, ◌-◌, ◌⊎◌, ◌+ℤ◌, ℕ, suc, pos, List, map, take, drop, length, Contains, Some, IsSome, option_map, is_some, string_bytes, slice_get}
use Rattle.std.specs.List.{count_by}
use Rattle.sqlite_value.specs.Order.{Row}
use Rattle.tl_ledger.specs.declared.schema.TheConstants.{CALL, REPLY, SEAL}
use Rattle.tl_ledger.specs.declared.rows.CallRow.{CallRow}
use Rattle.tl_ledger.specs.declared.rows.ReplyRow.{ReplyRow}
use Rattle.tl_ledger.specs.declared.rows.SealRow.{SealRow}
use Rattle.tl_ledger.specs.Contents.{Contents}
use Rattle.tl_ledger.specs.News.{call_columns, reply_columns, seal_columns}
use Rattle.tl_rows.specs.Rows.{numbers_in}
use Rattle.tl_store_commands.specs.declared.remembering.TheConstants.{RECALLED}
use Rattle.tl_keys.specs.declared.index.TheConstants.{CAPACITY}
use Rattle.tl_keys.specs.declared.index.KeyIndex.{KeyIndex}
use Rattle.tl_keys.specs.Kept.{KeptValue}
use Rattle.tl_keys.specs.Keys.{Lasts, recall}

-- the reply has the call's epoch and its number there
abbrev pub IsReplyTo : CallRow → ReplyRow → Type 0
IsReplyTo call reply = (reply.epoch ≡ call.epoch) × (reply.call ≡ call.number)

-- A call of the store had this key; and this is its epoch, counted over all volumes, so many of which stand before this one, its number there, and the reply that the store has of it.
pub record IsStoredUnder (before : ℕ) (c : Contents) (key : List ℕ) (kept : KeptValue) : Type 0 where
  pub call : CallRow
  pub reply : ReplyRow
  pub is_call : Contains (c CALL) (call_columns call)
  pub is_reply : Contains (c REPLY) (reply_columns reply)
  pub replies : IsReplyTo call reply
  pub has_key : option_map string_bytes call.key ≡ Some key
  pub epoch : kept.epoch ≡ pos before +ℤ call.epoch
  pub number : call.number ≡ kept.call
  pub values : numbers_in (string_bytes reply.reply) ≡ Some kept.reply

-- it was remembered under the key at the start, or a call of the store had the key
abbrev pub IsKnown : KeyIndex → ℕ → Contents → List ℕ → KeptValue → Type 0
IsKnown start before c key kept = (recall start key ≡ Some kept) ⊎ IsStoredUnder before c key kept

-- ---- which of them are found

-- the call had this key
abbrev pub HasKey : CallRow → List ℕ → Type 0
HasKey call key = option_map string_bytes call.key ≡ Some key

-- how many of these calls had a key
abbrev pub keyed : List CallRow → ℕ
keyed calls = count_by (λ call. is_some call.key) calls

-- What is remembered for these calls more is remembered still.
abbrev pub HoldsOn : List CallRow → KeyIndex → KeyIndex → Type 0
HoldsOn calls old new = (key : List ℕ) (n : ℕ) → Lasts old key (n + keyed calls) → Lasts new key n

-- Each of these calls that had a key, and has its reply among these, is remembered as long as if nothing else had been remembered before it.
abbrev pub AreFound : List CallRow → List ReplyRow → KeyIndex → Type 0
AreFound calls replies index = (place : ℕ) (call : CallRow) (reply : ReplyRow) (key : List ℕ) (n : ℕ) → slice_get calls place ≡ Some call → HasKey call key
    → Contains replies reply → IsReplyTo call reply → n + keyed calls ≤ CAPACITY + keyed (take (place + 1) calls) → Lasts index key n

-- With these seals there were so many rows of calls and of replies when this epoch began: none before the first seal, later what the seal before it counts.
pub record Began (seals : List Row) (epoch calls replies : ℕ) : Type 0 where
  pub first : epoch ≡ 0 → (calls ≡ 0) × (replies ≡ 0)
  pub later : (k : ℕ) → epoch ≡ suc k → (seal : SealRow) × (slice_get seals k ≡ Some (seal_columns seal)) × (seal.calls ≡ pos calls) × (seal.replies ≡ pos replies)

-- The store's calls are these. The one at this place had this key, and was answered in its epoch, which is sealed.
pub record IsAnswered (c : Contents) (calls : List CallRow) (place : ℕ) (key : List ℕ) : Type 0 where
  pub all : c CALL ≡ map call_columns calls
  pub call : CallRow
  pub at : slice_get calls place ≡ Some call
  pub has_key : HasKey call key
  pub epoch : ℕ
  pub first_call : ℕ
  pub first_reply : ℕ
  pub begins : Began (c SEAL) epoch first_call first_reply
  pub last_call : ℕ
  pub last_reply : ℕ
  pub ends : Began (c SEAL) (suc epoch) last_call last_reply
  pub inside : (first_call ≤ place) × (place < last_call)
  pub reply : ReplyRow
  pub replies : IsReplyTo call reply
  pub there : Contains (take (last_reply - first_reply) (drop first_reply (c REPLY))) (reply_columns reply)

-- After this epoch more, what lasted for its calls too lasts still, and each of its calls that had a key and was answered is remembered.
pub record FindsMore (c : Contents) (epoch : ℕ) (old new : KeyIndex) : Type 0 where
  pub first_call : ℕ
  pub first_reply : ℕ
  pub begins : Began (c SEAL) epoch first_call first_reply
  pub last_call : ℕ
  pub last_reply : ℕ
  pub ends : Began (c SEAL) (suc epoch) last_call last_reply
  pub order : first_call ≤ last_call
  pub held : (calls : List CallRow) → c CALL ≡ map call_columns calls → (key : List ℕ) (m n : ℕ)
      → n + keyed (take last_call calls) ≤ m + keyed (take first_call calls) → Lasts old key m → Lasts new key n
  pub here : (calls : List CallRow) (place : ℕ) (key : List ℕ) (n : ℕ) (a : IsAnswered c calls place key) → a.epoch ≡ epoch
      → n + keyed (take last_call calls) ≤ CAPACITY + keyed (take (place + 1) calls) → Lasts new key n

-- A call among the last ones that are looked at is found by its key, if it was answered and no more calls with keys came behind it than are remembered.
abbrev pub FindsLast : Contents → KeyIndex → Type 0
FindsLast c index = (calls : List CallRow) (place : ℕ) (key : List ℕ) → IsAnswered c calls place key → length calls ≤ place + RECALLED
    → keyed (drop (place + 1) calls) < CAPACITY → IsSome (recall index key)
