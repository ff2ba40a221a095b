-- The pending rows after the news of an epoch were added to them.
use Rattle.std.specs.Prelude.{◌≡◌, ℕ, ◌+◌, ◌-◌, ◌^◌, min, ℤ, pos, List, [], ◌∷◌, ◌++◌, map, length, replicate, Option, Some, None, option_map}
use Rattle.tl_width.specs.Fields.{field_count}
use Rattle.tl_procedures.specs.Names.{Named}
use Rattle.tl_tree.specs.Records.{Records}
use Rattle.tl_news.specs.declared.mark.Mark.{Mark}
use Rattle.tl_news.specs.declared.news.Answer.{Answer}
use Rattle.tl_news.specs.declared.news.NewProcedure.{NewProcedure}
use Rattle.tl_news.specs.declared.news.EpochNews.{EpochNews}
use Rattle.tl_news.specs.News.{Asked, named, asked}
use Rattle.tl_ledger.specs.declared.news.News.{News}
use Rattle.tl_ledger.specs.declared.rows.NodeRow.{NodeRow}
use Rattle.tl_ledger.specs.declared.rows.CallRow.{CallRow}
use Rattle.tl_ledger.specs.declared.rows.SealRow.{SealRow}
use Rattle.tl_ledger.specs.declared.committing.Marks.{Marks}
use Rattle.tl_pending.specs.declared.pending.Pending.{Pending}
use Rattle.tl_rows.specs.Batches.{Batch, batch_of, joined}
use Rattle.tl_rows.specs.Changes.{Leads}
use Rattle.tl_pending.specs.Claims.{ClaimValue, key_of, Learns}
use Rattle.tl_rows.specs.Rows.{procedure_form, named_form, call_form, call_key, turn_bytes, turn_form, reply_form}

-- ---- numbers, limited to the range of their type; no store has as many rows as that

-- a number as the value of a column
abbrev pub column : ℕ → ℤ
column n = pos (min n (2 ^ 63 - 1))

-- the number of rows after `count` more
abbrev pub more : ℕ → ℕ → ℕ
more rows count = min (rows + count) (2 ^ 64 - 1)

-- the sum of two numbers of epochs
abbrev pub added : ℕ → ℕ → ℕ
added before epochs = min (before + epochs) (2 ^ 64 - 1)

-- ---- rows

abbrev pub new_form : NewProcedure → List ℕ × List ℕ
new_form p = named_form (named p)

-- an admitted call: its epoch, its number there, its request, and the client's key for it
pub record Admitted : Type 0 where
  pub epoch : ℤ
  pub number : ℤ
  pub asks : List ℕ × Option (List ℤ)
  pub key : Option (List ℕ)

abbrev pub admitted_in : CallRow → Admitted
admitted_in row = record { epoch = row.epoch; number = row.number; asks = call_form row; key = call_key row }

-- a call has the key that its session has claimed
abbrev pub admitted_at : List ClaimValue → ℤ → ℕ → Asked → Admitted
admitted_at claims epoch number a = record { epoch = epoch; number = column number; asks = (a.name, Some a.args); key = key_of claims a.session }

-- the calls of an epoch, numbered from `first` on
abbrev pub admitted_from : List ClaimValue → ℤ → ℕ → List Asked → List Admitted
admitted_from claims epoch first [] = []
admitted_from claims epoch first (a ∷ others) = admitted_at claims epoch first a ∷ admitted_from claims epoch (first + 1) others

-- the turns in one row; no row if there are no turns
abbrev pub turn_forms : ℤ → List ℕ → List (ℤ × List ℕ)
turn_forms epoch [] = []
turn_forms epoch (t ∷ turns) = (epoch, turn_bytes (t ∷ turns)) ∷ []

abbrev pub answer_form : ℤ → Answer → (ℤ × ℤ) × Option (List ℤ)
answer_form epoch a = ((epoch, pos a.call), Some a.reply)

-- the seal after this many rows
abbrev pub seal_after : Marks → SealRow
seal_after rows = record { procedures = column rows.procedures; calls = column rows.calls; turns = column rows.turns; replies = column rows.replies }

-- ---- an epoch

-- the number of rows after the news of an epoch is stored, without its seal
abbrev pub counted : EpochNews → Marks → Marks
counted came rows = record {
  nodes = rows.nodes;
  procedures = more rows.procedures (length came.procedures.items);
  calls = more rows.calls (length came.calls.items);
  turns = more rows.turns (min (length came.turns.items) 1);
  replies = more rows.replies (length came.answers.items);
  seals = rows.seals;
}

-- rows of these forms were appended to the old ones
abbrev pub Appends : {A B : Type 0} → (A → B) → List B → List A → List A → Type 0
Appends form forms old new = (rows : List _) × (new ≡ old ++ rows) × (map form rows ≡ forms)

-- the rows are those of the news of an epoch, without its seal: its procedures, its calls from the first one on, each with the key that its session
-- has claimed, its turns and its replies
pub record AreOfNews (claims : List ClaimValue) (epoch : ℕ) (came : EpochNews) (b : Batch) : Type 0 where
  pub nodes : b.nodes ≡ []
  pub procedures : map procedure_form b.procedures ≡ map new_form came.procedures.items
  pub calls : map admitted_in b.calls ≡ admitted_from claims (column epoch) came.first_call (map asked came.calls.items)
  pub turns : map turn_form b.turns ≡ turn_forms (column epoch) came.turns.items
  pub replies : map reply_form b.replies ≡ map (answer_form (column epoch)) came.answers.items

-- If the epoch is over, there is its seal, which has the numbers of rows, and changes that lead from the records at the last seal to those at this one.
-- If it isn't over, there is no seal.
abbrev pub HasSeal : Option Records → Marks → Batch → Pending → Pending → Type 0
HasSeal None rows b old new = (b.seals ≡ []) × (b.records ≡ []) × (new.records.items ≡ old.records.items) × (new.rows ≡ rows)
HasSeal (Some now) rows b old new =
    (b.seals ≡ seal_after rows ∷ []) × Leads old.records.items now b.records × (new.records.items ≡ now) × (new.rows ≡ record rows { seals = more rows.seals 1 })

-- The news of an epoch was added: rows were appended, which are its own and, if it is over, its seal. Its replies are remembered under the keys of their
-- calls. The epoch's number in the live volume is the number of seals before its own; among all volumes, that of all epochs before it.
pub record Adds (came : EpochNews) (old new : Pending) : Type 0 where
  pub rows : Batch
  pub all : batch_of new.news ≡ joined (batch_of old.news) rows
  pub of : AreOfNews old.claims.items old.rows.seals came rows
  pub seal : HasSeal (option_map (λ v. v.items) came.records) (counted came old.rows) rows old new
  pub learns : Learns old.claims.items (column (added old.before old.rows.seals)) came.answers.items old.index new.index
  pub before : new.before ≡ old.before
  pub claims : new.claims ≡ old.claims
  pub mark : new.mark ≡ old.mark
  pub lost : new.is_lost ≡ old.is_lost

-- the news of several epochs was added, one after another
abbrev pub AddsAll : List EpochNews → Pending → Pending → Type 0
AddsAll [] old new = new ≡ old
AddsAll (e ∷ others) old new = (mid : Pending) × Adds e old mid × AddsAll others mid new

-- ---- the rest

-- the mark at the start of a table that begins with this many procedures
abbrev pub start : ℕ → Mark
start procedures = record { epochs = 0; place = record { procedures = procedures; calls = 0; events = 0 } }

-- no rows
pub record IsEmpty (news : News) : Type 0 where
  pub nodes : news.nodes.items ≡ []
  pub procedures : news.procedures.items ≡ []
  pub calls : news.calls.items ≡ []
  pub turns : news.turns.items ≡ []
  pub replies : news.replies.items ≡ []
  pub seals : news.seals.items ≡ []
  pub records : news.records.items ≡ []

-- a node with this parent, which exists from the start of this epoch on
abbrev pub node_of : ℤ → ℤ → NodeRow
node_of epoch parent = record { parent = parent; epoch = epoch }

-- these procedures took the place of those with their names, at the start of the epoch that isn't over
pub record Replaces (others : List Named) (old new : Pending) : Type 0 where
  pub procedures : Appends procedure_form (map named_form others) old.news.procedures.items new.news.procedures.items
  pub news : new.news ≡ record old.news { procedures = new.news.procedures }
  pub rows : new.rows ≡ record old.rows { procedures = more old.rows.procedures (length others) }
  pub rest : new ≡ record old { news = new.news; rows = new.rows }

-- nodes with these parents were appended, with records of zeros, at the start of the epoch that isn't over
pub record Grows (parents : List ℤ) (old new : Pending) : Type 0 where
  pub nodes : new.news.nodes.items ≡ old.news.nodes.items ++ map (node_of (column old.rows.seals)) parents
  pub news : new.news ≡ record old.news { nodes = new.news.nodes }
  pub records : new.records.items ≡ old.records.items ++ replicate (length parents) (replicate field_count (pos 0))
  pub rows : new.rows ≡ record old.rows { nodes = more old.rows.nodes (length parents) }
  pub before : new.before ≡ old.before
  pub claims : new.claims ≡ old.claims
  pub index : new.index ≡ old.index
  pub mark : new.mark ≡ old.mark
  pub lost : new.is_lost ≡ old.is_lost
