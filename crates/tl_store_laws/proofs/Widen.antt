-- The rows of nodes that are appended before any call of an epoch.
use Rattle.std.proofs.Common.{◌≡◌, ℕ, zero, suc, ◌+◌, ◌<◌, ◌≤◌, ℤ, pos, List, [], ◌∷◌, ◌++◌, length, map, get_or, replicate, refl, sym, ap, ap₂, ◌∙◌, subst, arith, Option, Some, None, slice_get}
use Rattle.std.specs.Prelude.{All}
use Rattle.std.proofs.lemmas.List.{append-nil, append_assoc, length-append, length-map, map-append, nil_from_length}
use Rattle.tl_width.specs.Fields.{field_count}
use Rattle.tl_tree.specs.Records.{Record, Records}
use Rattle.tl_core.specs.Cores.{CoreValue}
use Rattle.tl_ledger.specs.declared.rows.NodeRow.{NodeRow}
use Rattle.tl_ledger.specs.declared.rows.CallRow.{CallRow}
use Rattle.tl_ledger.specs.declared.rows.ReplyRow.{ReplyRow}
use Rattle.tl_ledger.specs.declared.rows.RecordRow.{RecordRow}
use Rattle.tl_ledger.specs.declared.schema.TheConstants.{NODE, RECORD, PROCEDURE, CALL, TURN, REPLY, SEAL}
use Rattle.tl_ledger.specs.Contents.{Contents}
use Rattle.tl_ledger.specs.News.{node_columns, new_columns, record_columns, fields_columns, procedure_columns, call_columns, turn_columns, reply_columns, seal_columns, with_changes}
use Rattle.tl_rows.specs.Rows.{parent_in, fields_in}
use Rattle.tl_store.specs.declared.stored.Sealed.{Sealed}
use Rattle.tl_store.specs.Stored.{IsLastSeal}
use Rattle.tl_store.specs.Recovered.{IsCallOf, IsReplyOf}
use Rattle.tl_rows.specs.Batches.{Batch, after_batch}
use Rattle.tl_store_laws.specs.Growing.{RowsValue, AreRowsOf, AreBehindCounts, AreRowsIn, IsLedgerOf, IsWideningNewsOf, widened}

abbrev zero_row : NodeRow → RecordRow
zero_row r = record { fields = replicate field_count (pos 0) }

zero_columns : (nodes : List NodeRow) → map record_columns (map zero_row nodes) ≡ map new_columns nodes
zero_columns [] = refl
zero_columns (r ∷ nodes) = ap (λ l. new_columns r ∷ l) (zero_columns nodes)

zero_fields : (nodes : List NodeRow) (added : List ℕ) → map parent_in nodes ≡ map pos added → map fields_in (map zero_row nodes) ≡ replicate (length added) (replicate field_count (pos 0))
zero_fields [] [] same = refl
zero_fields [] (a ∷ added) same = absurd (let l = ap length same in omega arith)
zero_fields (r ∷ nodes) [] same = absurd (let l = ap length same in omega arith)
zero_fields (r ∷ nodes) (a ∷ added) same =
    let tails : map parent_in nodes ≡ map pos added = cc in
    ap (λ l. replicate field_count (pos 0) ∷ l) (zero_fields nodes added tails)

module _ (c : Contents) (v : CoreValue) (added : List ℕ) (n : Batch) (old : IsLedgerOf c v) (none : v.calls ≡ []) (news : IsWideningNewsOf v added n) where
  abbrev now : Contents
  now = after_batch c n

  abbrev next : CoreValue
  next = widened v added

  abbrev rows : RowsValue
  rows = record {
    nodes = old.rows.nodes ++ n.nodes;
    records = old.rows.records ++ map zero_row n.nodes;
    procedures = old.rows.procedures;
    calls = old.rows.calls;
    turns = old.rows.turns;
    replies = old.rows.replies;
  }

  no_calls : length old.rows.calls ≡ 0
  no_calls = old.right.many ∙ ap length none

  no_reply : (k : ℕ) (d : ReplyRow) → k < length old.rows.replies → IsReplyOf next (pos (length (c SEAL))) (get_or old.rows.replies k d)
  no_reply k d less =
      let known = (old.right.replies k d less).known in
      let count : length v.calls ≡ 0 = ap length none in
      absurd (omega (arith, known, count))

  no_call : (k : ℕ) (row : CallRow) → slice_get old.rows.calls k ≡ Some row → IsCallOf next k row
  no_call k row at =
      let inside = Rattle.std.proofs.lemmas.Option.slice_get_within old.rows.calls k row at in
      let long = no_calls in
      absurd (omega (arith, inside, long))

  right : AreRowsOf (length (c SEAL)) rows next
  right = record {
    parents = map-append parent_in old.rows.nodes n.nodes ∙ ap₂ (λ a b. a ++ b) old.right.parents news.parents ∙ sym (map-append pos v.parents added);
    records = map-append fields_in old.rows.records (map zero_row n.nodes) ∙ ap₂ (λ a b. a ++ b) old.right.records (zero_fields n.nodes added news.parents);
    all = old.right.all;
    procedures = old.right.procedures;
    latest_are = old.right.latest_are;
    allowed = old.right.allowed;
    accepted = old.right.accepted;
    epoch_is = old.right.epoch_is;
    numbered = old.right.numbered;
    many = old.right.many;
    calls = no_call;
    turn_rows = old.right.turn_rows;
    turns = old.right.turns;
    replies = no_reply;
  }

  same_seals : now SEAL ≡ c SEAL
  same_seals = ap (λ l. c SEAL ++ map seal_columns l) news.seals ∙ append-nil (c SEAL)

  same_calls : now CALL ≡ c CALL
  same_calls = ap (λ l. c CALL ++ map call_columns l) news.calls ∙ append-nil (c CALL)

  same_turns : now TURN ≡ c TURN
  same_turns = ap (λ l. c TURN ++ map turn_columns l) news.turns ∙ append-nil (c TURN)

  same_replies : now REPLY ≡ c REPLY
  same_replies = ap (λ l. c REPLY ++ map reply_columns l) news.replies ∙ append-nil (c REPLY)

  behind : (s : Sealed) → IsLastSeal now s → AreBehindCounts now s rows
  behind s last =
      let was = old.there.behind s (subst (λ l. IsLastSeal (λ t. l) s) same_seals last) in record {
        few_calls = subst (λ l. s.calls ≤ length l) (sym same_calls) was.few_calls;
        few_turns = subst (λ l. s.turns ≤ length l) (sym same_turns) was.few_turns;
        few_replies = subst (λ l. s.replies ≤ length l) (sym same_replies) was.few_replies;
        calls = was.calls ∙ ap (Rattle.std.proofs.Common.drop s.calls) (sym same_calls);
        turns = was.turns ∙ ap (Rattle.std.proofs.Common.drop s.turns) (sym same_turns);
        replies = was.replies ∙ ap (Rattle.std.proofs.Common.drop s.replies) (sym same_replies);
      }

  pub ledger_widens : IsLedgerOf now next
  ledger_widens = record {
    rows = rows;
    there = record {
      nodes = ap (λ l. l ++ map node_columns n.nodes) old.there.nodes ∙ sym (map-append node_columns old.rows.nodes n.nodes);
      records = ap (λ x. with_changes (c RECORD ++ map new_columns n.nodes) x) news.records
          ∙ ap₂ (λ a b. a ++ b) old.there.records (sym (zero_columns n.nodes)) ∙ sym (map-append record_columns old.rows.records (map zero_row n.nodes));
      procedures = ap (λ l. c PROCEDURE ++ map procedure_columns l) news.procedures ∙ append-nil (c PROCEDURE) ∙ old.there.procedures;
      last = (old.there.last.0, subst (λ l. IsLastSeal (λ t. l) old.there.last.0) (sym same_seals) old.there.last.1);
      behind = behind;
    };
    right = subst (λ e. AreRowsOf e rows next) (sym (ap length same_seals)) right;
  }
