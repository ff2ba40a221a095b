-- The rows of a core and its news are the rows of the later core.
use Rattle.std.proofs.Common.{◌≡◌, ℕ, zero, suc, ◌+◌, ◌-◌, ◌<◌, ◌≤◌, ◌⊎◌, ℤ, pos, List, [], ◌∷◌, ◌++◌, length, map, drop, get_or, reverse, refl, sym, ap, ap₂, ◌∙◌, subst, inl, inr, arith, Option, Some, None, slice_get}
use Rattle.std.specs.Prelude.{All}
use Rattle.std.specs.List.{flat_map}
use Rattle.std.proofs.lemmas.Bool.{cases_lt}
use Rattle.std.proofs.lemmas.List.{append-nil, append_assoc, length-append, length-map, map-append, get_or-map, get_or_append_left, get_or-append-add, drop-append-le}
use Rattle.std.proofs.lemmas.List.Elements.{All-append}
use Rattle.std.proofs.lemmas.Option.{slice_get-get_or, slice_get_within}
use Rattle.std.proofs.lemmas.Grind.{flat_map-append}
use Rattle.tl_tree_locking.specs.History.{caller}
use Rattle.tl_instr.specs.Codes.{IsCode}
use Rattle.tl_verify.specs.Acceptable.{Acceptable}
use Rattle.tl_procedures.specs.Names.{Named, AreFreeAfter, latest, MayPutAll}
use Rattle.tl_core.specs.Cores.{CoreValue}
use Rattle.tl_core.specs.Reached.{IsReached}
use Rattle.tl_ledger.specs.declared.rows.CallRow.{CallRow}
use Rattle.tl_ledger.specs.declared.rows.ReplyRow.{ReplyRow}
use Rattle.tl_ledger.specs.declared.rows.TurnRow.{TurnRow}
use Rattle.tl_ledger.specs.declared.schema.TheConstants.{NODE, RECORD, PROCEDURE, CALL, TURN, REPLY, SEAL}
use Rattle.tl_ledger.specs.Contents.{Contents}
use Rattle.tl_ledger.specs.News.{node_columns, new_columns, record_columns, procedure_columns, call_columns, turn_columns, reply_columns, seal_columns, with_changes}
use Rattle.tl_rows.specs.Rows.{procedure_form, named_form, AreNumbered, turn_bytes, all_turn_bytes, IsTurnRow}
use Rattle.tl_store.specs.declared.stored.Sealed.{Sealed}
use Rattle.tl_store.specs.Stored.{IsLastSeal}
use Rattle.tl_store.specs.Recovered.{IsCallOf, IsReplyOf}
use Rattle.tl_recover.specs.Later.{Later}
use Rattle.tl_rows.specs.Batches.{Batch, after_batch}
use Rattle.tl_store_laws.specs.Growing.{RowsValue, AreRowsOf, IsRowOf, IsNewsOf, added, AreBehindCounts, AreRowsIn, IsLedgerOf}
use Rattle.tl_store_laws.proofs.Put.{latest_joined, may_joined, latest_free, may_free, free_behind}
use Rattle.tl_store_laws.proofs.Stay.{calls_longer, call_stays, reply_stays}

-- an item of two lists is one of the first or one of the second
pub joined_at : {X : Type 0} (xs ys : List X) (n : ℕ) (x : X) → slice_get (xs ++ ys) n ≡ Some x → (slice_get xs n ≡ Some x) ⊎ ((k : ℕ) × (n ≡ length xs + k) × (slice_get ys k ≡ Some x))
joined_at [] ys n x at = inr (n, omega arith, at)
joined_at (z ∷ xs) ys zero x at = inl at
joined_at (z ∷ xs) ys (suc n) x at = elim (joined_at xs ys n x at) [
  | inl old ↦ inl old
  | inr new ↦ let place = new.1 in inr (new.0, omega arith, new.2)
]

-- calls that are numbered from `first` on
numbered_from : (calls : List CallRow) (first : ℕ) → ((k : ℕ) (row : CallRow) → slice_get calls k ≡ Some row → row.number ≡ pos (first + k))
    → (k : ℕ) → k < length calls → get_or (map (λ (c : CallRow). c.number) calls) k (pos 0) ≡ pos (first + k)
numbered_from [] first each k less = absurd (omega arith)
numbered_from (c ∷ calls) first each zero less = each zero c refl
numbered_from (c ∷ calls) first each (suc k) less =
    let next : first + 1 + k ≡ first + suc k = omega arith in
    numbered_from calls (first + 1) (λ j row at. (let same : first + suc j ≡ first + 1 + j = omega arith in each (suc j) row at ∙ ap pos same)) k (omega arith) ∙ ap pos next

module _ (epoch : ℕ) (r : RowsValue) (v w : CoreValue) (n : Batch) (old : AreRowsOf epoch r v) (later : Later v w) (reached : IsReached w) (news : IsNewsOf epoch v w n) where
  free : AreFreeAfter v.procedures news.new
  free = free_behind [] v.procedures news.new (subst (AreFreeAfter []) news.new_are reached.named)

  now_latest : w.procedures ≡ latest [] (old.all ++ news.new)
  now_latest = news.new_are ∙ sym (latest_free v.procedures news.new free) ∙ ap (λ l. latest l news.new) old.latest_are ∙ sym (latest_joined [] old.all news.new)

  now_allowed : MayPutAll [] (old.all ++ news.new)
  now_allowed = may_joined [] old.all news.new old.allowed (subst (λ l. MayPutAll l news.new) old.latest_are (may_free v.procedures news.new free))

  now_numbered : AreNumbered (r.calls ++ n.calls)
  now_numbered k less =
      let long = length-append r.calls n.calls in
      let joined = map-append (λ (c : CallRow). c.number) r.calls n.calls in
      let many = old.many in
      let count = length-map r.calls (λ (c : CallRow). c.number) in
      elim (cases_lt k (length r.calls)) [
        | inl lt ↦
            ap (λ l. get_or l k (pos 0)) joined ∙ get_or_append_left (map (λ (c : CallRow). c.number) r.calls) (map (λ (c : CallRow). c.number) n.calls) (pos 0) k (omega arith) ∙ old.numbered k lt
        | inr out ↦
            let at : k ≡ length (map (λ (c : CallRow). c.number) r.calls) + (k - length r.calls) = omega arith in
            let inside : k - length r.calls < length n.calls = omega arith in
            let number : length v.calls + (k - length r.calls) ≡ k = omega arith in
            ap (λ l. get_or l k (pos 0)) joined
            ∙ ap (λ j. get_or (map (λ (c : CallRow). c.number) r.calls ++ map (λ (c : CallRow). c.number) n.calls) j (pos 0)) at
            ∙ get_or-append-add (map (λ (c : CallRow). c.number) r.calls) (map (λ (c : CallRow). c.number) n.calls) (k - length r.calls) (pos 0)
            ∙ numbered_from n.calls (length v.calls) (λ j row there. (news.calls j row there).number) (k - length r.calls) inside ∙ ap pos number
      ]

  now_calls : (k : ℕ) (row : CallRow) → slice_get (r.calls ++ n.calls) k ≡ Some row → IsCallOf w k row
  now_calls k row at = elim (joined_at r.calls n.calls k row at) [
    | inl was ↦
        let less = slice_get_within r.calls k row was in
        let many = old.many in
        call_stays v w k row later (omega arith) (old.calls k row was)
    | inr new ↦
        let many = old.many in
        let place : length v.calls + new.0 ≡ k = (let is = new.1 in omega arith) in
        subst (λ j. IsCallOf w j row) place (news.calls new.0 row new.2).call
  ]

  now_epoch : All (λ (c : CallRow). c.epoch ≡ pos epoch) (r.calls ++ n.calls)
  now_epoch = All-append (λ (c : CallRow). c.epoch ≡ pos epoch) r.calls n.calls old.epoch_is
      (λ k d less. (news.calls k (get_or n.calls k d) (slice_get-get_or n.calls k d less)).epoch_is)

  pub now_rows : AreRowsOf epoch (added r n) w
  now_rows = record {
    parents = old.parents ∙ ap (map pos) (sym later.parents);
    records = old.records ∙ sym later.opening;
    all = old.all ++ news.new;
    procedures = map-append procedure_form r.procedures n.procedures ∙ ap₂ (λ a b. a ++ b) old.procedures news.procedures ∙ sym (map-append named_form old.all news.new);
    latest_are = now_latest;
    allowed = now_allowed;
    accepted = All-append (λ (x : Named). IsCode x.code × Acceptable x.code.instrs) old.all news.new old.accepted news.accepted;
    epoch_is = now_epoch;
    numbered = now_numbered;
    many = length-append r.calls n.calls ∙ ap (λ k. k + length n.calls) old.many ∙ news.many;
    calls = now_calls;
    turn_rows = All-append (IsTurnRow (pos epoch)) r.turns n.turns old.turn_rows news.turn_rows;
    turns = flat_map-append (λ (t : TurnRow). t.calls.items) r.turns n.turns ∙ ap (λ l. l ++ all_turn_bytes n.turns) old.turns ∙ news.turns;
    replies = All-append (IsReplyOf w (pos epoch)) r.replies n.replies (λ k d less. reply_stays v w (pos epoch) (get_or r.replies k d) later reached (old.replies k d less)) news.replies;
  }

-- ---- the same of contents

module _ (c : Contents) (r : RowsValue) (n : Batch) (nodes : n.nodes ≡ []) (seals : n.seals ≡ []) (records : n.records ≡ []) (old : AreRowsIn c r) where
  abbrev now : Contents
  now = after_batch c n

  same_seals : now SEAL ≡ c SEAL
  same_seals = ap (λ l. c SEAL ++ map seal_columns l) seals ∙ append-nil (c SEAL)

  behind_now : (s : Sealed) → IsLastSeal c s → AreBehindCounts now s (added r n)
  behind_now s last =
      let was = old.behind s last in
      let calls = was.few_calls in
      let turns = was.few_turns in
      let replies = was.few_replies in
      let long_calls = length-append (c CALL) (map call_columns n.calls) in
      let long_turns = length-append (c TURN) (map turn_columns n.turns) in
      let long_replies = length-append (c REPLY) (map reply_columns n.replies) in record {
        few_calls = omega arith;
        few_turns = omega arith;
        few_replies = omega arith;
        calls = map-append call_columns r.calls n.calls ∙ ap (λ l. l ++ map call_columns n.calls) was.calls ∙ sym (drop-append-le s.calls (c CALL) (map call_columns n.calls) was.few_calls);
        turns = map-append turn_columns r.turns n.turns ∙ ap (λ l. l ++ map turn_columns n.turns) was.turns ∙ sym (drop-append-le s.turns (c TURN) (map turn_columns n.turns) was.few_turns);
        replies = map-append reply_columns r.replies n.replies ∙ ap (λ l. l ++ map reply_columns n.replies) was.replies ∙ sym (drop-append-le s.replies (c REPLY) (map reply_columns n.replies) was.few_replies);
      }

  pub rows_in_now : AreRowsIn now (added r n)
  rows_in_now = record {
    nodes = ap (λ l. c NODE ++ map node_columns l) nodes ∙ append-nil (c NODE) ∙ old.nodes;
    records = ap₂ (λ l x. with_changes (c RECORD ++ map new_columns l) x) nodes records ∙ append-nil (c RECORD) ∙ old.records;
    procedures = ap (λ l. l ++ map procedure_columns n.procedures) old.procedures ∙ sym (map-append procedure_columns r.procedures n.procedures);
    last = (old.last.0, subst (λ l. IsLastSeal (λ t. l) old.last.0) (sym same_seals) old.last.1);
    behind = λ s last. behind_now s (subst (λ l. IsLastSeal (λ t. l) s) same_seals last);
  }

pub ledger_grows : (c : Contents) (v w : CoreValue) (n : Batch) → IsLedgerOf c v → Later v w → IsReached w → IsNewsOf (length (c SEAL)) v w n → IsLedgerOf (after_batch c n) w
ledger_grows c v w n old later reached news =
    let same : length (after_batch c n SEAL) ≡ length (c SEAL) = ap length (ap (λ l. c SEAL ++ map seal_columns l) news.seals ∙ append-nil (c SEAL)) in record {
      rows = added old.rows n;
      there = rows_in_now c old.rows n news.nodes news.seals news.records old.there;
      right = subst (λ e. AreRowsOf e (added old.rows n) w) (sym same) (now_rows (length (c SEAL)) old.rows v w n old.right later reached news);
    }
