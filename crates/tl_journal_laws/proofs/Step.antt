-- The pending rows, one epoch further.
use Rattle.std.proofs.Common.{◌≡◌, ℕ, ◌+◌, ◌-◌, ◌<◌, ◌^◌, min, pos, Bool, true, false, List, [], ◌∷◌, ◌++◌, length, map, refl, sym, ap, ◌∙◌, subst, arith, Option, Some, None, option_map}
use Rattle.std.specs.Prelude.{All}
use Rattle.std.proofs.lemmas.List.{append-nil, length-append, length-map}
use Rattle.std.proofs.lemmas.List.Elements.{All-append, All-nil}
use Rattle.tl_tree.specs.Records.{Records}
use Rattle.tl_tree.specs.Trees.{TreeValue}
use Rattle.tl_tree_locking.specs.History.{AllDone, records_now}
use Rattle.tl_tree_locking.proofs.Records.{length-records_now}
use Rattle.tl_core.specs.Cores.{CoreValue, opened_after}
use Rattle.tl_core.specs.Reached.{IsReached}
use Rattle.tl_json.specs.Procedures.{AreAccepted}
use Rattle.tl_news.specs.declared.news.EpochNews.{EpochNews}
use Rattle.tl_news.specs.News.{NewsValue, named, news_value, news_behind, end_of}
use Rattle.tl_ledger.specs.declared.committing.Marks.{Marks}
use Rattle.tl_ledger.specs.declared.rows.ChangedRecord.{ChangedRecord}
use Rattle.tl_ledger.specs.declared.schema.TheConstants.{NODE, RECORD, PROCEDURE, CALL, TURN, REPLY, SEAL}
use Rattle.tl_ledger.specs.Contents.{Contents}
use Rattle.tl_rows.specs.Rows.{fields_in}
use Rattle.tl_ledger.specs.News.{IsMarked, node_columns, new_columns, record_columns, procedure_columns, call_columns, turn_columns, reply_columns, seal_columns}
use Rattle.tl_rows.specs.Changes.{Leads}
use Rattle.tl_pending.specs.declared.pending.Pending.{Pending}
use Rattle.tl_pending.specs.Pendings.{column, more, counted, seal_after, HasSeal, AreOfNews, Adds}
use Rattle.tl_recover.specs.Later.{Later}
use Rattle.tl_rows.specs.Batches.{Batch, batch_of, after_batch}
use Rattle.tl_store_laws.specs.Growing.{IsLedgerOf, IsNewsOf, IsSealOf, IsLastNewsOf}
use Rattle.tl_store_laws.proofs.Grow.{ledger_grows}
use Rattle.tl_store_laws.proofs.Seal.{ledger_seals}
use Rattle.tl_store_laws.proofs.Leading.{changes_long}
use Rattle.tl_store_laws.proofs.Again.{ledger_joined, marked_joined}
use Rattle.tl_store_history.specs.History.{PastEpoch, HasHistory, EndsEpoch}
use Rattle.tl_store_history.proofs.Whole.{history_grows, history_seals, history_joined}
use Rattle.tl_journal_laws.specs.Unstored.{AreFew, IsPendingOf}
use Rattle.tl_journal_laws.proofs.Adding.{news_now, procedures_now, new_now, count_procedures, count_calls, count_turns, count_replies, replied_now}

longer : {A B : Type 0} (f : A → B) (before : List B) (xs : List A) (n k m : ℕ) → length before ≡ n → length xs ≡ k → n + k ≡ m → length (before ++ map f xs) ≡ m
longer f before xs n k m b x s =
    let a = length-append before (map f xs) in
    let l = length-map xs f in
    omega (arith, a, l, b, x, s)

plain : (n : ℕ) → n < 2 ^ 63 → column n ≡ pos n
plain n small = let fits : min n (2 ^ 63 - 1) ≡ n = omega arith in ap pos fits

sum : (n k : ℕ) → n + k < 2 ^ 63 → n + k ≡ more n k
sum n k small = omega arith

-- with the seal there are at least as many rows as without it
pub few_counted : (left : Option Records) (rows : Marks) (b : Batch) (old new : Pending) → HasSeal left rows b old new → AreFew new.rows → AreFew rows
few_counted None rows b old new seal few = subst AreFew seal.3 few
few_counted (Some now) rows b old new seal few =
    let all = seal.3 in record {
      procedures = subst (λ n. n < 2 ^ 62) (ap (λ (m : Marks). m.procedures) all) few.procedures;
      calls = subst (λ n. n < 2 ^ 62) (ap (λ (m : Marks). m.calls) all) few.calls;
      turns = subst (λ n. n < 2 ^ 62) (ap (λ (m : Marks). m.turns) all) few.turns;
      replies = subst (λ n. n < 2 ^ 62) (ap (λ (m : Marks). m.replies) all) few.replies;
      seals = let one = ap (λ (m : Marks). m.seals) all in let few_seals = few.seals in omega (arith, one, few_seals);
    }

module _ (c : Contents) (v w : CoreValue) (number : ℕ) (owners : List ℕ) (came : EpochNews) (old new : Pending) (pending : IsPendingOf c old v) (later : Later v w) (reached : IsReached w)
    (each : length owners ≡ length w.calls) (few : AreFew new.rows) (accepted : AreAccepted (map named came.procedures.items)) (appends : Adds came old new) where
  enough : AreFew (counted came old.rows)
  enough = few_counted (option_map (λ x. x.items) came.records) (counted came old.rows) appends.rows old new appends.seal few

  abbrev before : Contents
  before = after_batch c (batch_of old.news)

  abbrev b : Batch
  b = appends.rows

  abbrev twice : Contents
  twice = after_batch before b

  seals_are : length (before SEAL) ≡ old.rows.seals
  seals_are = pending.marked.seals

  small : old.rows.seals < 2 ^ 62
  small = let f = enough.seals in omega (arith, f)

  marked_all : (m : Marks) → IsMarked twice m → IsMarked (after_batch c (batch_of new.news)) m
  marked_all m there = subst (λ x. IsMarked (after_batch c x) m) (sym appends.all) (marked_joined c (batch_of old.news) b m pending.inside there)

  -- the changes are of nodes that there are
  nodes_kept : new.news.nodes.items ≡ old.news.nodes.items
  nodes_kept = ap (λ (x : Batch). x.nodes) appends.all ∙ ap (λ l. old.news.nodes.items ++ l) appends.of.nodes ∙ append-nil old.news.nodes.items

  from_all : (next : CoreValue) → IsLedgerOf twice next → IsLedgerOf (after_batch c (batch_of new.news)) next
  from_all next there = subst (λ x. IsLedgerOf (after_batch c x) next) (sym appends.all) (ledger_joined c (batch_of old.news) b next pending.inside there)

  module _ (over : Bool) (is : news_value came ≡ news_behind (end_of v) number w owners over) where
    as_many_procedures : length b.procedures ≡ length came.procedures.items
    as_many_procedures = count_procedures v w number owners over came old.claims.items old.rows.seals b later reached each small accepted is appends.of

    as_many_calls : length b.calls ≡ length came.calls.items
    as_many_calls = count_calls v w number owners over came old.claims.items old.rows.seals b later reached each small accepted is appends.of

    as_many_turns : length b.turns ≡ min (length came.turns.items) 1
    as_many_turns = count_turns v w number owners over came old.claims.items old.rows.seals b later reached each small accepted is appends.of

    as_many_replies : length b.replies ≡ length came.answers.items
    as_many_replies = count_replies v w number owners over came old.claims.items old.rows.seals b later reached each small accepted is appends.of

    now_procedures : length (twice PROCEDURE) ≡ (counted came old.rows).procedures
    now_procedures = longer procedure_columns (before PROCEDURE) b.procedures old.rows.procedures (length came.procedures.items) _ pending.marked.procedures as_many_procedures (let f = enough.procedures in sum old.rows.procedures (length came.procedures.items) (omega (arith, f)))

    now_calls : length (twice CALL) ≡ (counted came old.rows).calls
    now_calls = longer call_columns (before CALL) b.calls old.rows.calls (length came.calls.items) _ pending.marked.calls as_many_calls (let f = enough.calls in sum old.rows.calls (length came.calls.items) (omega (arith, f)))

    now_turns : length (twice TURN) ≡ (counted came old.rows).turns
    now_turns = longer turn_columns (before TURN) b.turns old.rows.turns (min (length came.turns.items) 1) _ pending.marked.turns as_many_turns (let f = enough.turns in sum old.rows.turns (min (length came.turns.items) 1) (omega (arith, f)))

    now_replies : length (twice REPLY) ≡ (counted came old.rows).replies
    now_replies = longer reply_columns (before REPLY) b.replies old.rows.replies (length came.answers.items) _ pending.marked.replies as_many_replies (let f = enough.replies in sum old.rows.replies (length came.answers.items) (omega (arith, f)))

    now_nodes : length (twice NODE) ≡ old.rows.nodes
    now_nodes = ap (λ l. length (before NODE ++ map node_columns l)) appends.of.nodes ∙ ap length (append-nil (before NODE)) ∙ pending.marked.nodes

    now_records : length (twice RECORD) ≡ old.rows.nodes
    now_records = changes_long (before RECORD ++ map new_columns b.nodes) b.records ∙ ap (λ l. length (before RECORD ++ map new_columns l)) appends.of.nodes ∙ ap length (append-nil (before RECORD)) ∙ pending.marked.records

    -- all rows, once they are stored
    marked_as : (m : Marks) → m.nodes ≡ old.rows.nodes → m.procedures ≡ (counted came old.rows).procedures → m.calls ≡ (counted came old.rows).calls → m.turns ≡ (counted came old.rows).turns
        → m.replies ≡ (counted came old.rows).replies → length (twice SEAL) ≡ m.seals → IsMarked twice m
    marked_as m nodes procedures calls turns replies seals = record {
      nodes = now_nodes ∙ sym nodes;
      records = now_records ∙ sym nodes;
      procedures = now_procedures ∙ sym procedures;
      calls = now_calls ∙ sym calls;
      turns = now_turns ∙ sym turns;
      replies = now_replies ∙ sym replies;
      seals = seals;
    }

  -- the records before
  long_before : length (before RECORD) ≡ length (c RECORD ++ map new_columns old.news.nodes.items)
  long_before = changes_long (c RECORD ++ map new_columns old.news.nodes.items) old.news.records.items

  long_opening : length v.opening ≡ length (before RECORD)
  long_opening =
      let rows = pending.ledger.rows.records in
      sym (ap length pending.ledger.right.records) ∙ length-map rows fields_in ∙ sym (length-map rows record_columns) ∙ sym (ap length pending.ledger.there.records)

  inside_all : All (λ (x : ChangedRecord). x.node < length (c RECORD ++ map new_columns old.news.nodes.items)) b.records
      → All (λ (x : ChangedRecord). x.node < length (c RECORD ++ map new_columns new.news.nodes.items)) new.news.records.items
  inside_all more' =
      subst (λ l. All (λ (x : ChangedRecord). x.node < length (c RECORD ++ map new_columns new.news.nodes.items)) l) (sym (ap (λ (x : Batch). x.records) appends.all))
      (subst (λ l. All (λ (x : ChangedRecord). x.node < length (c RECORD ++ map new_columns l)) (old.news.records.items ++ b.records)) (sym nodes_kept)
      (All-append (λ (x : ChangedRecord). x.node < length (c RECORD ++ map new_columns old.news.nodes.items)) old.news.records.items b.records pending.inside more'))

  -- ---- an epoch that isn't over

  module _ (is : news_value came ≡ news_behind (end_of v) number w owners false) where
    unsealed : HasSeal None (counted came old.rows) b old new
    unsealed = subst (λ (o : Option Records). HasSeal o (counted came old.rows) b old new) (ap (λ (n : NewsValue). n.records) is) appends.seal

    news : IsNewsOf (length (before SEAL)) v w b
    news = subst (λ e. IsNewsOf e v w b) (sym seals_are)
        (news_now v w number owners false came old.claims.items old.rows.seals b later reached each small accepted is appends.of unsealed.0 unsealed.1)

    marked_open : IsMarked twice new.rows
    marked_open =
        let rows = unsealed.3 in
        marked_as false is new.rows (ap (λ (m : Marks). m.nodes) rows) (ap (λ (m : Marks). m.procedures) rows) (ap (λ (m : Marks). m.calls) rows) (ap (λ (m : Marks). m.turns) rows)
        (ap (λ (m : Marks). m.replies) rows)
        (ap (λ l. length (before SEAL ++ map seal_columns l)) unsealed.0 ∙ ap length (append-nil (before SEAL)) ∙ seals_are ∙ sym (ap (λ (m : Marks). m.seals) rows))

    pub goes_on : IsPendingOf c new w
    goes_on = record {
      ledger = from_all w (ledger_grows before v w b pending.ledger later reached news);
      marked = marked_all new.rows marked_open;
      records = unsealed.2 ∙ pending.records ∙ sym later.opening;
      inside = inside_all (subst (λ l. All (λ (x : ChangedRecord). x.node < length (c RECORD ++ map new_columns old.news.nodes.items)) l) (sym unsealed.1) (All-nil _));
    }

  -- ---- an epoch that is over

  module _ (is : news_value came ≡ news_behind (end_of v) number w owners true) where
    abbrev left : Records
    left = records_now w.past w.opening

    has_seal : HasSeal (Some left) (counted came old.rows) b old new
    has_seal = subst (λ (o : Option Records). HasSeal o (counted came old.rows) b old new) (ap (λ (n : NewsValue). n.records) is) appends.seal

    leads : Leads w.opening left b.records
    leads = subst (λ l. Leads l left b.records) (pending.records ∙ sym later.opening) has_seal.1

    behind : {A B : Type 0} (f : A → B) (rows : List B) (xs : List A) (n : ℕ) → length (rows ++ map f xs) ≡ n → n ≡ length rows + length xs
    behind f rows xs n is' = sym is' ∙ length-append rows (map f xs) ∙ ap (λ k. length rows + k) (length-map xs f)

    seal_is : IsSealOf before w b
    seal_is = record {
      seal = seal_after (counted came old.rows);
      seals = has_seal.0;
      procedures = plain (counted came old.rows).procedures (let f = enough.procedures in omega (arith, f)) ∙ ap pos (behind procedure_columns (before PROCEDURE) b.procedures _ (now_procedures true is));
      calls = plain (counted came old.rows).calls (let f = enough.calls in omega (arith, f)) ∙ ap pos (behind call_columns (before CALL) b.calls _ (now_calls true is));
      turns = plain (counted came old.rows).turns (let f = enough.turns in omega (arith, f)) ∙ ap pos (behind turn_columns (before TURN) b.turns _ (now_turns true is));
      replies = plain (counted came old.rows).replies (let f = enough.replies in omega (arith, f)) ∙ ap pos (behind reply_columns (before REPLY) b.replies _ (now_replies true is));
      records = leads;
    }

    last_news : IsLastNewsOf before v w b
    last_news = record {
      nodes = appends.of.nodes;
      new = map named came.procedures.items;
      procedures = procedures_now v w number owners true came old.claims.items old.rows.seals b later reached each small accepted is appends.of;
      new_are = new_now v w number owners true came old.claims.items old.rows.seals b later reached each small accepted is appends.of;
      accepted = accepted;
      sealed = seal_is;
    }

    abbrev bare : Batch
    bare = record b { seals = []; records = [] }

    of_bare : AreOfNews old.claims.items old.rows.seals came bare
    of_bare = record { nodes = appends.of.nodes; procedures = appends.of.procedures; calls = appends.of.calls; turns = appends.of.turns; replies = appends.of.replies }

    pub ends_epoch : EndsEpoch before v w b
    ends_epoch = record {
      news = subst (λ e. IsNewsOf e v w bare) (sym seals_are) (news_now v w number owners true came old.claims.items old.rows.seals bare later reached each small accepted is of_bare refl refl);
      replied = replied_now v w number owners true came old.claims.items old.rows.seals b later reached each small accepted is appends.of;
      seal = seal_is;
    }

    marked_closed : IsMarked twice new.rows
    marked_closed =
        let rows = has_seal.3 in
        let one : old.rows.seals + 1 ≡ more old.rows.seals 1 = (let f = enough.seals in omega (arith, f)) in
        let long : length (before SEAL ++ map seal_columns b.seals) ≡ old.rows.seals + 1 =
        ap (λ l. length (before SEAL ++ map seal_columns l)) has_seal.0 ∙ length-append (before SEAL) (seal_columns (seal_after (counted came old.rows)) ∷ []) ∙ ap (λ k. k + 1) seals_are in
        marked_as true is new.rows (ap (λ (m : Marks). m.nodes) rows) (ap (λ (m : Marks). m.procedures) rows) (ap (λ (m : Marks). m.calls) rows) (ap (λ (m : Marks). m.turns) rows)
        (ap (λ (m : Marks). m.replies) rows) (long ∙ one ∙ sym (ap (λ (m : Marks). m.seals) rows))

    changed_inside : All (λ (x : ChangedRecord). x.node < length (c RECORD ++ map new_columns old.news.nodes.items)) b.records
    changed_inside k d less =
        let here = (leads.each k d less).inside in
        let long = length-records_now w.past w.opening in
        let same = ap length later.opening in
        let opening = long_opening in
        let rows = long_before in
        omega (arith, here, long, same, opening, rows)

    pub goes_over : IsPendingOf c new (opened_after w).seen
    goes_over = record {
      ledger = from_all (opened_after w).seen (ledger_seals before v w b pending.ledger later reached last_news);
      marked = marked_all new.rows marked_closed;
      records = has_seal.2;
      inside = inside_all changed_inside;
    }

  -- ---- with the history

  history_all : (t : TreeValue) (es : List PastEpoch) (next : CoreValue) → HasHistory twice t es next → HasHistory (after_batch c (batch_of new.news)) t es next
  history_all t es next there = subst (λ x. HasHistory (after_batch c x) t es next) (sym appends.all) (history_joined c (batch_of old.news) b t es next pending.inside there)

  pub history_open : (t : TreeValue) (es : List PastEpoch) (is : news_value came ≡ news_behind (end_of v) number w owners false) → HasHistory before t es v → HasHistory (after_batch c (batch_of new.news)) t es w
  history_open t es is h = history_all t es w
      (history_grows before b t es v w h later reached (news is) (replied_now v w number owners false came old.claims.items old.rows.seals b later reached each small accepted is appends.of))

  pub history_over : (t : TreeValue) (es : List PastEpoch) (is : news_value came ≡ news_behind (end_of v) number w owners true) → AllDone w.past → (h : HasHistory before t es v)
      → HasHistory (after_batch c (batch_of new.news)) t (es ++ record { added = h.added; core = w } ∷ []) (opened_after w).seen
  history_over t es is done h = history_all t (es ++ record { added = h.added; core = w } ∷ []) (opened_after w).seen (history_seals before b t es v w h later reached done (ends_epoch is))
