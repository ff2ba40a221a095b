-- The rows at the end of an epoch are those of the next one's core.
use Rattle.std.proofs.Common.{◌≡◌, ◌≢◌, ℕ, zero, suc, ◌+◌, ◌<◌, ◌≤◌, ◌⊎◌, ℤ, pos, List, [], ◌∷◌, ◌++◌, length, map, drop, get_or, reverse, refl, sym, ap, ap₂, ◌∙◌, subst, inl, inr, arith, Option, Some, None, slice_get}
use Rattle.std.specs.Prelude.{All}
use Rattle.std.proofs.lemmas.List.{append-nil, append_assoc, length-append, length-map, map-append}
use Rattle.std.proofs.lemmas.List.Elements.{All-append, All-nil}
use Rattle.sqlite_value.specs.declared.value.Value.TheVariants.{Null, Int}
use Rattle.sqlite_value.specs.Order.{Row}
use Rattle.tl_tree.specs.Records.{Record, Records}
use Rattle.tl_tree_locking.specs.History.{caller, records_now}
use Rattle.tl_tree_locking.proofs.Records.{length-records_now}
use Rattle.tl_instr.specs.Codes.{IsCode}
use Rattle.tl_verify.specs.Acceptable.{Acceptable}
use Rattle.tl_procedures.specs.Names.{Named, AreFreeAfter, latest, MayPutAll}
use Rattle.tl_core.specs.Cores.{CoreValue, opened_after}
use Rattle.tl_core.specs.Reached.{IsReached}
use Rattle.tl_ledger.specs.declared.rows.RecordRow.{RecordRow}
use Rattle.tl_ledger.specs.declared.rows.CallRow.{CallRow}
use Rattle.tl_ledger.specs.declared.rows.SealRow.{SealRow}
use Rattle.tl_ledger.specs.declared.schema.TheConstants.{NODE, RECORD, PROCEDURE, CALL, TURN, REPLY, SEAL}
use Rattle.tl_ledger.specs.Contents.{Contents}
use Rattle.tl_ledger.specs.News.{node_columns, new_columns, record_columns, fields_columns, procedure_columns, call_columns, turn_columns, reply_columns, seal_columns, with_changes}
use Rattle.tl_rows.specs.Rows.{fields_in, procedure_form, named_form}
use Rattle.tl_store.specs.declared.stored.Sealed.{Sealed}
use Rattle.tl_store.specs.Stored.{IsLastSeal, counts}
use Rattle.tl_recover.specs.Later.{Later}
use Rattle.tl_rows.specs.Batches.{Batch, after_batch}
use Rattle.tl_store_laws.specs.Growing.{RowsValue, AreRowsOf, AreBehindCounts, AreRowsIn, IsLedgerOf, IsSealOf, IsLastNewsOf}
use Rattle.tl_store_laws.proofs.Put.{latest_joined, may_joined, latest_free, may_free, free_behind}
use Rattle.tl_store_laws.proofs.Leading.{changes_lead}

-- ---- the last of some rows

last_same : {X : Type 0} (xs ys : List X) (x y : X) → xs ++ x ∷ [] ≡ ys ++ y ∷ [] → x ≡ y
last_same [] [] x y same = let h : x ≡ y = cc in h
last_same [] (z ∷ ys) x y same = absurd (let l = ap length same in let long = length-append ys (y ∷ []) in omega arith)
last_same (z ∷ xs) [] x y same = absurd (let l = ap length same in let long = length-append xs (x ∷ []) in omega arith)
last_same (z ∷ xs) (w ∷ ys) x y same = let tails : xs ++ x ∷ [] ≡ ys ++ y ∷ [] = cc in last_same xs ys x y tails

some_last : {X : Type 0} (xs : List X) (x : X) → xs ++ x ∷ [] ≡ [] → ⊥
some_last xs x same = let l = ap length same in let long = length-append xs (x ∷ []) in omega arith

pos_same : (a b : ℕ) → pos a ≡ pos b → a ≡ b
pos_same a b same = cc

drop_all : {X : Type 0} (n : ℕ) (xs : List X) → n ≡ length xs → drop n xs ≡ []
drop_all n [] is = (let z : n ≡ 0 = is in ap (λ k. drop k []) z)
drop_all zero (x ∷ xs) is = absurd (omega arith)
drop_all (suc n) (x ∷ xs) is = drop_all n xs (omega arith)

-- the counts behind the seal are its own
own_counts : (before : List Row) (seal : SealRow) (s : Sealed) (c : Contents) → c SEAL ≡ before ++ seal_columns seal ∷ [] → IsLastSeal c s
    → (seal.calls ≡ pos s.calls) × (seal.turns ≡ pos s.turns) × (seal.replies ≡ pos s.replies)
own_counts before seal s c is (inl none) = absurd (some_last before (seal_columns seal) (sym is ∙ none.0))
own_counts before seal s c is (inr (number, other, last, counted)) =
    let same : seal_columns seal ≡ seal_columns other = last_same before last.front (seal_columns seal) (seal_columns other) (sym is ∙ last.columns_are) in
    let calls : seal.calls ≡ other.calls = cc in
    let turns : seal.turns ≡ other.turns = cc in
    let replies : seal.replies ≡ other.replies = cc in
    (calls ∙ counted.0, turns ∙ counted.1, replies ∙ counted.2)

abbrev pub record_row : Record → RecordRow
record_row fields = record { fields = fields }

rows_fields : (records : Records) → map fields_in (map record_row records) ≡ records
rows_fields [] = refl
rows_fields (r ∷ records) = ap (λ l. r ∷ l) (rows_fields records)

rows_columns : (records : Records) → map record_columns (map record_row records) ≡ map fields_columns records
rows_columns [] = refl
rows_columns (r ∷ records) = ap (λ l. fields_columns r ∷ l) (rows_columns records)

columns_fields : (rows : List RecordRow) → map record_columns rows ≡ map fields_columns (map fields_in rows)
columns_fields [] = refl
columns_fields (r ∷ rows) = ap (λ l. record_columns r ∷ l) (columns_fields rows)

module _ (c : Contents) (v w : CoreValue) (n : Batch) (old : IsLedgerOf c v) (later : Later v w) (reached : IsReached w) (news : IsLastNewsOf c v w n) where
  abbrev now : Contents
  now = after_batch c n

  abbrev next : CoreValue
  next = (opened_after w).seen

  abbrev rows : RowsValue
  rows = record {
    nodes = old.rows.nodes;
    records = map record_row (records_now w.past w.opening);
    procedures = old.rows.procedures ++ n.procedures;
    calls = [];
    turns = [];
    replies = [];
  }

  free : AreFreeAfter v.procedures news.new
  free = free_behind [] v.procedures news.new (subst (AreFreeAfter []) news.new_are reached.named)

  right : AreRowsOf (length (now SEAL)) rows next
  right = record {
    parents = old.right.parents ∙ ap (map pos) (sym later.parents);
    records = rows_fields (records_now w.past w.opening);
    all = old.right.all ++ news.new;
    procedures = map-append procedure_form old.rows.procedures n.procedures ∙ ap₂ (λ a b. a ++ b) old.right.procedures news.procedures ∙ sym (map-append named_form old.right.all news.new);
    latest_are = news.new_are ∙ sym (latest_free v.procedures news.new free) ∙ ap (λ l. latest l news.new) old.right.latest_are ∙ sym (latest_joined [] old.right.all news.new);
    allowed = may_joined [] old.right.all news.new old.right.allowed (subst (λ l. MayPutAll l news.new) old.right.latest_are (may_free v.procedures news.new free));
    accepted = All-append (λ (x : Named). IsCode x.code × Acceptable x.code.instrs) old.right.all news.new old.right.accepted news.accepted;
    epoch_is = All-nil _;
    numbered = λ k less. absurd (omega arith);
    many = refl;
    calls = λ k row at. absurd (let z : ⊥ = cc in z);
    turn_rows = All-nil _;
    turns = refl;
    replies = All-nil _;
  }

  same_records : now RECORD ≡ map record_columns rows.records
  same_records =
      let size = reached.sound.size in
      let long = length-records_now w.past w.opening in
      let before : c RECORD ≡ map fields_columns w.opening = old.there.records ∙ columns_fields old.rows.records ∙ ap (map fields_columns) (old.right.records ∙ sym later.opening) in
      ap (λ l. with_changes (c RECORD ++ map new_columns l) n.records) news.nodes
      ∙ ap (λ l. with_changes l n.records) (append-nil (c RECORD) ∙ before)
      ∙ changes_lead w.opening (records_now w.past w.opening) n.records (sym long) news.sealed.records
      ∙ sym (rows_columns (records_now w.past w.opening))

  last_is : now SEAL ≡ c SEAL ++ seal_columns news.sealed.seal ∷ []
  last_is = ap (λ l. c SEAL ++ map seal_columns l) news.sealed.seals

  behind : (s : Sealed) → IsLastSeal now s → AreBehindCounts now s rows
  behind s last =
      let own = own_counts (c SEAL) news.sealed.seal s now last_is last in
      let calls : s.calls ≡ length (c CALL) + length n.calls = pos_same s.calls _ (sym own.0 ∙ news.sealed.calls) in
      let turns : s.turns ≡ length (c TURN) + length n.turns = pos_same s.turns _ (sym own.1 ∙ news.sealed.turns) in
      let replies : s.replies ≡ length (c REPLY) + length n.replies = pos_same s.replies _ (sym own.2 ∙ news.sealed.replies) in
      let all_calls : length (now CALL) ≡ length (c CALL) + length n.calls = length-append (c CALL) (map call_columns n.calls) ∙ ap (λ k. length (c CALL) + k) (length-map n.calls call_columns) in
      let all_turns : length (now TURN) ≡ length (c TURN) + length n.turns = length-append (c TURN) (map turn_columns n.turns) ∙ ap (λ k. length (c TURN) + k) (length-map n.turns turn_columns) in
      let all_replies : length (now REPLY) ≡ length (c REPLY) + length n.replies = length-append (c REPLY) (map reply_columns n.replies) ∙ ap (λ k. length (c REPLY) + k) (length-map n.replies reply_columns) in record {
        few_calls = omega (arith, calls, all_calls);
        few_turns = omega (arith, turns, all_turns);
        few_replies = omega (arith, replies, all_replies);
        calls = sym (drop_all s.calls (now CALL) (calls ∙ sym all_calls));
        turns = sym (drop_all s.turns (now TURN) (turns ∙ sym all_turns));
        replies = sym (drop_all s.replies (now REPLY) (replies ∙ sym all_replies));
      }

  pub ledger_seals : IsLedgerOf now next
  ledger_seals = record {
    rows = rows;
    there = record {
      nodes = ap (λ l. c NODE ++ map node_columns l) news.nodes ∙ append-nil (c NODE) ∙ old.there.nodes;
      records = same_records;
      procedures = ap (λ l. l ++ map procedure_columns n.procedures) old.there.procedures ∙ sym (map-append procedure_columns old.rows.procedures n.procedures);
      last = (
        record { calls = length (c CALL) + length n.calls; turns = length (c TURN) + length n.turns; replies = length (c REPLY) + length n.replies },
        inr (length (c SEAL), news.sealed.seal, record { front = c SEAL; number_is = refl; columns_are = last_is }, (news.sealed.calls, news.sealed.turns, news.sealed.replies)),
      );
      behind = behind;
    };
    right = right;
  }
