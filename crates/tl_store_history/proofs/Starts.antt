-- A store's history where a server starts, and where procedures are replaced and nodes appended before any call of an epoch.
use Rattle.std.proofs.Common.{◌≡◌, ◌∙◌, ℕ, ◌+◌, ◌<◌, ℤ, pos, true, List, [], ◌∷◌, ◌++◌, length, map, replicate, get_or, refl, sym, ap, ap₂, subst, inl, inr, arith}
use Rattle.std.specs.Prelude.{All}
use Rattle.std.proofs.lemmas.Bool.{false≢true, cases_lt}
use Rattle.std.proofs.lemmas.List.{append-nil, append_assoc}
use Rattle.std.proofs.lemmas.List.Elements.{All-nil}
use Rattle.std.proofs.lemmas.Option.{slice_get_within}
use Rattle.sqlite_value.specs.declared.value.Value.TheVariants.{Int}
use Rattle.tl_width.specs.Fields.{field_count}
use Rattle.tl_tree.specs.Records.{Record}
use Rattle.tl_tree.specs.Trees.{TreeValue}
use Rattle.tl_tree_locking.specs.History.{is_done}
use Rattle.tl_tree_locking.proofs.ReachedWorlds.{unadmitted_done}
use Rattle.tl_procedures.specs.Names.{Named, replaced}
use Rattle.tl_core.specs.Cores.{CoreValue, opened, opened_after}
use Rattle.tl_core.specs.Reached.{IsReached}
use Rattle.tl_ledger.specs.declared.founding.Founding.{Founding}
use Rattle.tl_ledger.specs.declared.news.News.{News}
use Rattle.tl_ledger.specs.declared.rows.RecordRow.{RecordRow}
use Rattle.tl_ledger.specs.declared.rows.ReplyRow.{ReplyRow}
use Rattle.tl_ledger.specs.declared.schema.TheConstants.{SEAL}
use Rattle.tl_ledger.specs.Contents.{Contents, no_contents}
use Rattle.tl_ledger.specs.News.{record_columns, after_founding}
use Rattle.tl_rows.specs.Batches.{Batch, batch_of, after_batch}
use Rattle.tl_rows.specs.Rows.{parent_in, fields_in, procedure_form, all_turn_bytes, IsTurnRow}
use Rattle.tl_store.specs.declared.stored.Stored.{Stored}
use Rattle.tl_store.specs.Stored.{AreStored}
use Rattle.tl_store.specs.Closing.{IsClosing, HasReply}
use Rattle.tl_store.specs.Recovered.{IsReplyOf, IsRebuilt, IsMadeAgain, AreOfCore}
use Rattle.tl_store_laws.specs.Growing.{IsNewsOf, IsSealOf, IsReplacingNewsOf, IsWideningNewsOf, widened}
use Rattle.tl_store_laws.proofs.Columns.{ledger_is_store}
use Rattle.tl_store_laws.proofs.Founded.{founded}
use Rattle.tl_store_laws.proofs.Idle.{kept}
use Rattle.tl_store_laws.proofs.Replace.{ledger_replaces}
use Rattle.tl_store_laws.proofs.Stay.{calls_longer}
use Rattle.tl_store_laws.proofs.Widen.{ledger_widens}
use Rattle.tl_store_history.specs.Sealed.{IsThere, IsOf}
use Rattle.tl_store_history.specs.History.{PastEpoch, parents_after, records_after, HasHistory, EndsEpoch}
use Rattle.tl_store_history.proofs.Kept.{history_founded}
use Rattle.tl_store_history.proofs.Whole.{nodes_told, history_with}

-- ---- records

record_told : (x y : RecordRow) → record_columns x ≡ record_columns y → fields_in x ≡ fields_in y
record_told x y same = let tails : map Int x.fields ≡ map Int y.fields = cc in fields_told x.fields y.fields tails
  where
    fields_told : (a b : List ℤ) → map Int a ≡ map Int b → a ≡ b
    fields_told [] [] is = refl
    fields_told [] (y ∷ b) is = absurd (let l = ap length is in omega arith)
    fields_told (x ∷ a) [] is = absurd (let l = ap length is in omega arith)
    fields_told (x ∷ a) (y ∷ b) is =
        let heads : x ≡ y = cc in
        let rest : map Int a ≡ map Int b = cc in
        ap₂ (λ z l. z ∷ l) heads (fields_told a b rest)

-- equal columns are those of equal records
pub records_told : (xs ys : List RecordRow) → map record_columns xs ≡ map record_columns ys → map fields_in xs ≡ map fields_in ys
records_told [] [] same = refl
records_told [] (y ∷ ys) same = absurd (let l = ap length same in omega arith)
records_told (x ∷ xs) [] same = absurd (let l = ap length same in omega arith)
records_told (x ∷ xs) (y ∷ ys) same =
    let heads : record_columns x ≡ record_columns y = cc in
    let tails : map record_columns xs ≡ map record_columns ys = cc in
    ap₂ (λ a l. a ∷ l) (record_told x y heads) (records_told xs ys tails)

-- ---- the first contents

pub history_founds : (t : TreeValue) (limit : ℕ) (first : Founding) → map parent_in first.nodes.items ≡ map pos t.parents → All (IsOf 0) first.nodes.items → map fields_in first.records.items ≡ t.records
    → first.procedures.items ≡ [] → HasHistory (after_founding no_contents first) t [] (opened t [] limit).seen
history_founds t limit first parents of records procedures =
    let ledger = founded t limit first parents records procedures in
    let nodes : first.nodes.items ≡ ledger.rows.nodes = nodes_told first.nodes.items ledger.rows.nodes ledger.there.nodes in
    record {
      history = history_founded t first records;
      ledger = ledger;
      nodes = subst (All (IsThere 0)) nodes (λ k d less. (0, of k d less, omega arith));
      added = [];
      goes_on = record { parents = sym (append-nil t.parents); opening = sym (append-nil t.records) };
      replied = λ call over. absurd (false≢true over);
      entries = record {
        calls = record { there = omega arith; entries = []; are = refl };
        turns = record { there = omega arith; entries = []; are = refl };
        replies = record { there = omega arith; entries = []; are = refl };
        seals = record { there = omega arith; entries = []; are = refl };
      };
    }

-- ---- before any call

no_reply : (v : CoreValue) (rows : List ReplyRow) → v.past ≡ [] → (call : ℕ) → is_done call v.past ≡ true → HasReply rows call
no_reply v rows fresh call over = absurd (false≢true (ap (is_done call) (sym fresh) ∙ over))

pub history_replaces : (c : Contents) (n : Batch) (t : TreeValue) (es : List PastEpoch) (v : CoreValue) (others : List Named) → HasHistory c t es v → v.calls ≡ [] → v.past ≡ [] → IsReplacingNewsOf v others n
    → HasHistory (after_batch c n) t es (record v { procedures = replaced v.procedures others })
history_replaces c n t es v others h none fresh news =
    let next = record v { procedures = replaced v.procedures others } in
    let ledger = ledger_replaces c v others n h.ledger none fresh news in
    history_with c n t es v next h.added ledger h news.seals (subst (All (IsOf (length (c SEAL)))) (sym news.nodes) (All-nil _)) (record { parents = h.goes_on.parents; opening = h.goes_on.opening })
    (no_reply next ledger.rows.replies fresh)

zeros_joined : (a b : List ℕ) (zeros : Record) → replicate (length a) zeros ++ replicate (length b) zeros ≡ replicate (length (a ++ b)) zeros
zeros_joined [] b zeros = refl
zeros_joined (x ∷ a) b zeros = ap (λ l. zeros ∷ l) (zeros_joined a b zeros)

pub history_widens : (c : Contents) (n : Batch) (t : TreeValue) (es : List PastEpoch) (v : CoreValue) (more : List ℕ) → HasHistory c t es v → v.calls ≡ [] → v.past ≡ [] → IsWideningNewsOf v more n → All (IsOf (length (c SEAL))) n.nodes
    → HasHistory (after_batch c n) t es (widened v more)
history_widens c n t es v more h none fresh news of =
    let next = widened v more in
    let ledger = ledger_widens c v more n h.ledger none news in
    let zeros : Record = replicate field_count (pos 0) in
    history_with c n t es v next (h.added ++ more) ledger h news.seals of
    (record {
      parents = ap (λ l. l ++ more) h.goes_on.parents ∙ append_assoc (parents_after t.parents es) h.added more;
      opening = ap (λ l. l ++ replicate (length more) zeros) h.goes_on.opening ∙ append_assoc (records_after t.records es) (replicate (length h.added) zeros) (replicate (length more) zeros)
          ∙ ap (λ l. records_after t.records es ++ l) (zeros_joined h.added more zeros);
    })
    (no_reply next ledger.rows.replies fresh)

-- ---- a start

module _ (c : Contents) (t : TreeValue) (es : List PastEpoch) (v w : CoreValue) (h : HasHistory c t es v) (reached_v : IsReached v) (reached_w : IsReached w) (made : IsMadeAgain v w) (none : w.calls ≡ []) where
  -- no call was stored, and nothing is
  pub history_rests : HasHistory c t es (opened_after w).seen
  history_rests =
      let ledger = kept c v w h.ledger made reached_v reached_w none in
      let nodes : h.ledger.rows.nodes ≡ ledger.rows.nodes = nodes_told h.ledger.rows.nodes ledger.rows.nodes (sym h.ledger.there.nodes ∙ ledger.there.nodes) in
      let records = sym ledger.right.records ∙ records_told ledger.rows.records h.ledger.rows.records (sym ledger.there.records ∙ h.ledger.there.records) ∙ h.ledger.right.records in
      record {
        history = h.history;
        ledger = ledger;
        nodes = subst (All (IsThere (length es))) nodes h.nodes;
        added = h.added;
        goes_on = record { parents = made.later.parents ∙ h.goes_on.parents; opening = records ∙ h.goes_on.opening };
        replied = λ call over. absurd (false≢true over);
        entries = h.entries;
      }

module _ (c : Contents) (s : Stored) (t : TreeValue) (es : List PastEpoch) (v w : CoreValue) (news : News) (h : HasHistory c t es v) (made : IsMadeAgain v w) (reached : IsReached w) (rebuilt : IsRebuilt s w) (stored : AreStored c s)
    (closing : IsClosing s w news) (whole : All (IsTurnRow (pos (length (c SEAL)))) news.turns.items) where
  of : AreOfCore s v
  of = ledger_is_store c v h.ledger s stored

  no_calls : length news.calls.items ≡ 0
  no_calls = ap length closing.calls

  no_procedures : length news.procedures.items ≡ 0
  no_procedures = ap length closing.procedures

  seal_so : IsSealOf c w (batch_of news)
  seal_so = record {
    seal = closing.seal;
    seals = closing.seals;
    procedures = closing.counts.procedures ∙ ap pos (omega (arith, stored.marked.procedures, no_procedures));
    calls = closing.counts.calls ∙ ap pos (omega (arith, stored.marked.calls, no_calls));
    turns = closing.counts.all_turns ∙ ap (λ k. pos (k + length news.turns.items)) (sym stored.marked.turns);
    replies = closing.counts.all_replies ∙ ap (λ k. pos (k + length news.replies.items)) (sym stored.marked.replies);
    records = closing.records;
  }

  news_so : IsNewsOf (length (c SEAL)) v w (record (batch_of news) { seals = []; records = [] })
  news_so = record {
    nodes = closing.nodes;
    seals = refl;
    records = refl;
    new = [];
    procedures = ap (map procedure_form) closing.procedures;
    new_are = made.procedures ∙ sym (append-nil v.procedures);
    accepted = All-nil _;
    many = omega (arith, no_calls, rebuilt.few, of.many, calls_longer v w made.later);
    calls = λ k row at. absurd (let inside = slice_get_within news.calls.items k row at in omega (arith, inside, no_calls));
    turn_rows = whole;
    turns = ap (λ l. l ++ all_turn_bytes news.turns.items) (sym of.turns) ∙ closing.turns;
    replies = λ k d less. subst (λ e. IsReplyOf w (pos e) (get_or news.replies.items k d)) (sym stored.marked.seals) (closing.replies.each k d less).right;
  }

  -- a stored reply is that of a call that was done
  was_done : (call : ℕ) → HasReply s.replies.items call → is_done call v.past ≡ true
  was_done call found =
      let is = subst (IsReplyOf v (pos s.marks.seals)) found.3 (of.replies found.0 found.1 found.2) in
      let both : pos is.call ≡ pos call = sym is.call_is ∙ found.4 in
      let same : is.call ≡ call = cc in
      subst (λ k. is_done k v.past ≡ true) same is.done

  -- a call that is done was admitted
  known : (call : ℕ) → is_done call w.past ≡ true → call < length w.calls
  known call over = elim (cases_lt call (length w.calls)) [
    | inl less ↦ less
    | inr out ↦ absurd (false≢true (sym (unadmitted_done w.past reached.sound.legal.in_turn call (omega (arith, out, reached.counted))) ∙ over))
  ]

  pub closing_ends : EndsEpoch c v w (batch_of news)
  closing_ends = record {
    news = news_so;
    replied = λ call over. elim (closing.replies.whole call (known call over) over) [
      | inl before ↦ inl (was_done call before)
      | inr late ↦ inr late
    ];
    seal = seal_so;
  }
