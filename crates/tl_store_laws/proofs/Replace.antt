-- The rows of replaced procedures, before any call of an epoch.
use Rattle.std.proofs.Common.{◌≡◌, ◌≢◌, ℕ, zero, suc, ◌+◌, ◌<◌, ◌≤◌, ℤ, pos, List, [], ◌∷◌, ◌++◌, length, map, drop, get_or, reverse, refl, sym, ap, ap₂, ◌∙◌, subst, arith, Option, Some, None, slice_get}
use Rattle.std.specs.Prelude.{All}
use Rattle.std.proofs.lemmas.List.{append-nil, append_assoc, length-append, length-map, map-append, nil_from_length}
use Rattle.std.proofs.lemmas.List.Elements.{All-append, All-head, All-tail}
use Rattle.tl_instr.specs.Codes.{IsCode}
use Rattle.tl_verify.specs.Acceptable.{Acceptable}
use Rattle.tl_procedures.specs.Names.{Named, AreKnown, number_of, naming_refusal, latest, replaced, put, put_at, with_code, MayPut, MayPutAll}
use Rattle.tl_tree_locking.specs.History.{caller}
use Rattle.tl_core.specs.Cores.{CoreValue}
use Rattle.tl_ledger.specs.declared.rows.CallRow.{CallRow}
use Rattle.tl_ledger.specs.declared.rows.ReplyRow.{ReplyRow}
use Rattle.tl_ledger.specs.declared.schema.TheConstants.{NODE, RECORD, PROCEDURE, CALL, TURN, REPLY, SEAL}
use Rattle.tl_ledger.specs.Contents.{Contents}
use Rattle.tl_ledger.specs.News.{procedure_columns, seal_columns}
use Rattle.tl_rows.specs.Rows.{procedure_form, named_form, IsTurnRow}
use Rattle.tl_store.specs.Recovered.{IsReplyOf}
use Rattle.tl_rows.specs.Batches.{Batch, after_batch}
use Rattle.tl_store_laws.specs.Growing.{RowsValue, AreRowsOf, AreRowsIn, IsLedgerOf, IsReplacingNewsOf, added}
use Rattle.tl_store_laws.proofs.Put.{may_joined}
use Rattle.tl_store_laws.proofs.Replaced.{latest_replaced, known_named, put_known}
use Rattle.tl_store_laws.proofs.Grow.{rows_in_now}

may_known : (before others : List Named) → AreKnown before others → MayPutAll before others
may_known before [] known = tt
may_known before (o ∷ others) known =
    let first = All-head (λ (x : Named). number_of before x.name ≢ None) o others known in (
      (λ none. absurd (first none)),
      subst (λ l. MayPutAll l others) (sym (put_known (number_of before o.name) before o first))
          (may_known (map (with_code o) before) others (known_named o before others (All-tail (λ (x : Named). number_of before x.name ≢ None) o others known))),
    )

module _ (c : Contents) (v : CoreValue) (others : List Named) (n : Batch) (old : IsLedgerOf c v) (none : v.calls ≡ []) (fresh : v.past ≡ []) (news : IsReplacingNewsOf v others n) where
  abbrev now : Contents
  now = after_batch c n

  abbrev next : CoreValue
  next = record v { procedures = replaced v.procedures others }

  abbrev rows : RowsValue
  rows = added old.rows n

  no_calls : rows.calls ≡ []
  no_calls =
      let many = old.right.many in
      let count : length v.calls ≡ 0 = ap length none in
      ap (λ l. old.rows.calls ++ l) news.calls ∙ append-nil old.rows.calls ∙ nil_from_length old.rows.calls (omega arith)

  known : AreKnown (latest [] old.right.all) others
  known = subst (λ l. AreKnown l others) old.right.latest_are news.known

  same_seals : now SEAL ≡ c SEAL
  same_seals = ap (λ l. c SEAL ++ map seal_columns l) news.seals ∙ append-nil (c SEAL)

  right : AreRowsOf (length (c SEAL)) rows next
  right = record {
    parents = old.right.parents;
    records = old.right.records;
    all = old.right.all ++ others;
    procedures = map-append procedure_form old.rows.procedures n.procedures ∙ ap₂ (λ a b. a ++ b) old.right.procedures news.procedures ∙ sym (map-append named_form old.right.all others);
    latest_are = ap (λ l. replaced l others) old.right.latest_are ∙ sym (latest_replaced old.right.all others known);
    allowed = may_joined [] old.right.all others old.right.allowed (may_known (latest [] old.right.all) others known);
    accepted = All-append (λ (x : Named). IsCode x.code × Acceptable x.code.instrs) old.right.all others old.right.accepted news.accepted;
    epoch_is = λ k d less. absurd (let z = ap length no_calls in omega arith);
    numbered = λ k less. absurd (let z = ap length no_calls in omega arith);
    many = ap length no_calls ∙ sym (ap length none);
    calls = λ k row at. absurd (let z : slice_get {X = CallRow} [] k ≡ Some row = ap (λ l. slice_get l k) (sym no_calls) ∙ at in let y : ⊥ = cc in y);
    turn_rows = subst (λ l. All (IsTurnRow (pos (length (c SEAL)))) l) (sym (ap (λ l. old.rows.turns ++ l) news.turns ∙ append-nil old.rows.turns)) old.right.turn_rows;
    turns = ap Rattle.tl_rows.specs.Rows.all_turn_bytes (ap (λ l. old.rows.turns ++ l) news.turns ∙ append-nil old.rows.turns) ∙ old.right.turns;
    replies = λ k d less. absurd_reply k d less;
  }
    where
      absurd_reply : (k : ℕ) (d : ReplyRow) → k < length rows.replies → IsReplyOf next (pos (length (c SEAL))) (get_or rows.replies k d)
      absurd_reply k d less =
          let same : rows.replies ≡ old.rows.replies = ap (λ l. old.rows.replies ++ l) news.replies ∙ append-nil old.rows.replies in
          let long = ap length same in
          let was = old.right.replies k d (omega arith) in
          let known = was.known in
          let count : length v.calls ≡ 0 = ap length none in
          absurd (omega arith)

  pub ledger_replaces : IsLedgerOf now next
  ledger_replaces = record {
    rows = rows;
    there = rows_in_now c old.rows n news.nodes news.seals news.records old.there;
    right = subst (λ e. AreRowsOf e rows next) (sym (ap length same_seals)) right;
  }
