-- A store's history while rows are added behind it.
use Rattle.std.proofs.Common.{◌≡◌, ◌∙◌, ℕ, zero, suc, ◌+◌, ◌-◌, ◌<◌, ◌≤◌, ℤ, pos, true, List, [], ◌∷◌, ◌++◌, length, map, take, drop, refl, sym, ap, ap₂, subst, inl, inr, arith, Some, slice_get, get_or}
use Rattle.std.specs.Prelude.{All, Any}
use Rattle.std.proofs.lemmas.Bool.{false≢true}
use Rattle.std.proofs.lemmas.List.{append-nil, length-append, length-map, map-append, drop-append-le, take_all, length-drop, drop-map, take-map, get_or_append_left, get_or-append-add, get_or-map}
use Rattle.std.proofs.lemmas.List.Elements.{All-append, All-nil}
use Rattle.sqlite_value.specs.Order.{Row}
use Rattle.tl_tree.specs.Records.{Records}
use Rattle.tl_tree.specs.Trees.{TreeValue}
use Rattle.tl_tree_locking.specs.History.{is_done, AllDone}
use Rattle.tl_core.specs.Cores.{CoreValue, opened_after}
use Rattle.tl_core.specs.Reached.{IsReached}
use Rattle.tl_ledger.specs.declared.rows.ChangedRecord.{ChangedRecord}
use Rattle.tl_ledger.specs.declared.rows.NodeRow.{NodeRow}
use Rattle.tl_ledger.specs.declared.rows.ReplyRow.{ReplyRow}
use Rattle.tl_ledger.specs.declared.rows.SealRow.{SealRow}
use Rattle.tl_ledger.specs.declared.schema.TheConstants.{NODE, RECORD, PROCEDURE, CALL, TURN, REPLY, SEAL, OPENING}
use Rattle.tl_ledger.specs.Contents.{Contents}
use Rattle.tl_ledger.specs.News.{node_columns, new_columns, procedure_columns, call_columns, turn_columns, reply_columns, seal_columns}
use Rattle.tl_recover.specs.Later.{Later}
use Rattle.tl_rows.specs.Batches.{Batch, joined, after_batch}
use Rattle.tl_store.specs.declared.stored.Sealed.{Sealed}
use Rattle.tl_store.specs.Stored.{IsLastSeal, AreEntries}
use Rattle.tl_store.specs.Closing.{HasReply}
use Rattle.tl_compare.specs.Epochs.{AreBetween, IsSealAt, IsSealBefore}
use Rattle.tl_store_laws.specs.Growing.{AreRowsOf, IsLedgerOf, IsNewsOf, IsLastNewsOf, added}
use Rattle.tl_store_laws.proofs.Grow.{now_rows, rows_in_now}
use Rattle.tl_store_laws.proofs.Again.{AreSame, ledger_again}
use Rattle.tl_store_laws.proofs.Joined.{same_nodes, same_records, same_procedures, same_calls, same_turns, same_replies, same_seals}
use Rattle.tl_store_laws.proofs.Seal.{ledger_seals}
use Rattle.tl_store_history.specs.Sealed.{IsThere, IsOf, HasSealed}
use Rattle.tl_store_history.specs.History.{PastEpoch, left_by, TakesOver, parents_after, records_after, GoesOnFrom, AreOfEntries, HasHistory, AreReplied, EndsEpoch}
use Rattle.tl_store_history.proofs.Kept.{at_longer, history_stays, history_longer}

pos_same : (a b : ℕ) → pos a ≡ pos b → a ≡ b
pos_same a b same = cc

-- ---- nodes

node_told : (x y : NodeRow) → node_columns x ≡ node_columns y → x ≡ y
node_told x y same =
    let parent : x.parent ≡ y.parent = cc in
    let epoch : x.epoch ≡ y.epoch = cc in
    λ i. record { parent = parent i; epoch = epoch i }

-- equal columns are those of equal nodes
pub nodes_told : (xs ys : List NodeRow) → map node_columns xs ≡ map node_columns ys → xs ≡ ys
nodes_told [] [] same = refl
nodes_told [] (y ∷ ys) same = absurd (let l = ap length same in omega arith)
nodes_told (x ∷ xs) [] same = absurd (let l = ap length same in omega arith)
nodes_told (x ∷ xs) (y ∷ ys) same =
    let heads : node_columns x ≡ node_columns y = cc in
    let tails : map node_columns xs ≡ map node_columns ys = cc in
    ap₂ (λ a l. a ∷ l) (node_told x y heads) (nodes_told xs ys tails)

there_later : (n m : ℕ) (nodes : List NodeRow) → n ≤ m → All (IsThere n) nodes → All (IsThere m) nodes
there_later n m nodes few there = λ k d less. let was = there k d less in (was.0, was.1, omega (arith, was.2, few))

-- the nodes of contents with more behind them
there_now : (n : ℕ) (old new now : List NodeRow) → map node_columns now ≡ map node_columns old ++ map node_columns new → All (IsThere n) old → All (IsOf n) new → All (IsThere n) now
there_now n old new now same there of =
    let is : now ≡ old ++ new = nodes_told now (old ++ new) (same ∙ sym (map-append node_columns old new)) in
    subst (All (IsThere n)) (sym is) (All-append (IsThere n) old new there (λ k d less. (n, of k d less, omega arith)))

-- ---- entries

entries_longer : {X : Type 0} (columns : X → Row) (rows : List Row) (more : List X) → AreEntries columns rows 0 → AreEntries columns (rows ++ map columns more) 0
entries_longer columns rows more are = record {
  there = omega arith;
  entries = are.entries ++ more;
  are = map-append columns are.entries more ∙ ap (λ l. l ++ map columns more) are.are;
}

all_entries : (c : Contents) (n : Batch) → AreOfEntries c → AreOfEntries (after_batch c n)
all_entries c n are = record {
  calls = entries_longer call_columns (c CALL) n.calls are.calls;
  turns = entries_longer turn_columns (c TURN) n.turns are.turns;
  replies = entries_longer reply_columns (c REPLY) n.replies are.replies;
  seals = entries_longer seal_columns (c SEAL) n.seals are.seals;
}

-- ---- without a seal

pub history_with : (c : Contents) (n : Batch) (t : TreeValue) (es : List PastEpoch) (v next : CoreValue) (more : List ℕ) (ledger : IsLedgerOf (after_batch c n) next) → HasHistory c t es v → n.seals ≡ []
    → All (IsOf (length (c SEAL))) n.nodes → GoesOnFrom t es more next → ((call : ℕ) → is_done call next.past ≡ true → HasReply ledger.rows.replies call)
    → HasHistory (after_batch c n) t es next
history_with c n t es v next more ledger h none of goes_on replied = record {
  history = history_stays c n t es h.history none of;
  ledger = ledger;
  nodes = there_now (length es) h.ledger.rows.nodes n.nodes ledger.rows.nodes (sym ledger.there.nodes ∙ ap (λ l. l ++ map node_columns n.nodes) h.ledger.there.nodes) h.nodes
      (subst (λ k. All (IsOf k) n.nodes) h.history.many of);
  added = more;
  goes_on = goes_on;
  replied = replied;
  entries = all_entries c n h.entries;
}

-- ---- replies

any_left : {X : Type 0} (P : X → Type 0) (xs ys : List X) → Any P xs → Any P (xs ++ ys)
any_left P xs ys some =
    let long = length-append xs ys in
    (some.0, some.1, omega (arith, some.2, long), get_or_append_left xs ys some.1 some.0 some.2 ∙ some.3, some.4)

any_right : {X : Type 0} (P : X → Type 0) (xs ys : List X) → Any P ys → Any P (xs ++ ys)
any_right P xs ys some =
    let long = length-append xs ys in
    (length xs + some.0, some.1, omega (arith, some.2, long), get_or-append-add xs ys some.0 some.1 ∙ some.3, some.4)

has_reply : (old new : List ReplyRow) (v w : CoreValue) → ((call : ℕ) → is_done call v.past ≡ true → HasReply old call) → AreReplied v w new
    → (call : ℕ) → is_done call w.past ≡ true → HasReply (old ++ new) call
has_reply old new v w before replied call over = elim (replied call over) [
  | inl was ↦ any_left (λ (r : ReplyRow). r.call ≡ pos call) old new (before call was)
  | inr now ↦ any_right (λ (r : ReplyRow). r.call ≡ pos call) old new now
]

-- ---- news of an open epoch

module _ (c : Contents) (n : Batch) (t : TreeValue) (es : List PastEpoch) (v w : CoreValue) (h : HasHistory c t es v) (later : Later v w) (reached : IsReached w) (news : IsNewsOf (length (c SEAL)) v w n)
    (replied : AreReplied v w n.replies) where
  no_seal : after_batch c n SEAL ≡ c SEAL
  no_seal = ap (λ l. c SEAL ++ map seal_columns l) news.seals ∙ append-nil (c SEAL)

  grown : IsLedgerOf (after_batch c n) w
  grown = record {
    rows = added h.ledger.rows n;
    there = rows_in_now c h.ledger.rows n news.nodes news.seals news.records h.ledger.there;
    right = subst (λ e. AreRowsOf e (added h.ledger.rows n) w) (sym (ap length no_seal)) (now_rows (length (c SEAL)) h.ledger.rows v w n h.ledger.right later reached news);
  }

  pub history_grows : HasHistory (after_batch c n) t es w
  unfolding grown
  history_grows =
      let no_nodes : All (IsOf (length (c SEAL))) n.nodes = subst (All (IsOf (length (c SEAL)))) (sym news.nodes) (All-nil _) in
      history_with c n t es v w h.added grown h news.seals no_nodes
      (record { parents = later.parents ∙ h.goes_on.parents; opening = later.opening ∙ h.goes_on.opening })
      (has_reply h.ledger.rows.replies n.replies v w h.replied replied)

-- ---- the seal of an epoch

-- the rows behind a count, with more behind them
rest_between : {X : Type 0} (columns : X → Row) (rows : List Row) (first last : ℤ) (from : ℕ) (xs more : List X) → first ≡ pos from → last ≡ pos (length rows + length more) → from ≤ length rows
    → map columns xs ≡ drop from rows → AreBetween columns (rows ++ map columns more) first last (xs ++ more)
rest_between columns rows first last from xs more first_is last_is few are =
    let all : length (rows ++ map columns more) ≡ length rows + length more = length-append rows (map columns more) ∙ ap (λ k. length rows + k) (length-map more columns) in
    record {
      from = from;
      to = length rows + length more;
      first_is = first_is;
      last_is = last_is;
      order = omega (arith, few);
      inside = omega (arith, all);
      are = map-append columns xs more ∙ ap (λ l. l ++ map columns more) are ∙ sym (drop-append-le from rows (map columns more) few)
          ∙ sym (take_all (length rows + length more - from) (drop from (rows ++ map columns more)) (let l = length-drop from (rows ++ map columns more) in omega (arith, l, all, few)));
    }

-- what stands from one count on and below another
pub some_between : {X : Type 0} (columns : X → Row) (rows : List Row) (xs : List X) (first last : ℤ) (from to : ℕ) → map columns xs ≡ rows → first ≡ pos from → last ≡ pos to → from ≤ to → to ≤ length rows
    → AreBetween columns rows first last (take (to - from) (drop from xs))
some_between columns rows xs first last from to are first_is last_is order inside = record {
  from = from;
  to = to;
  first_is = first_is;
  last_is = last_is;
  order = order;
  inside = inside;
  are = sym (take-map columns (to - from) (drop from xs)) ∙ ap (take (to - from)) (sym (drop-map columns from xs) ∙ ap (drop from) are);
}

-- how many rows there were at the last seal
pub record LastCounts (c : Contents) (n : ℕ) : Type 0 where
  pub seal : SealRow
  pub before : IsSealBefore c n seal
  pub counts : Sealed
  pub is_last : IsLastSeal c counts
  pub calls : seal.calls ≡ pos counts.calls
  pub turns : seal.turns ≡ pos counts.turns
  pub replies : seal.replies ≡ pos counts.replies
  pub procedures : ℕ
  pub procedures_are : seal.procedures ≡ pos procedures
  pub few : procedures ≤ length (c PROCEDURE)

-- the last of the rows
pub at_end : {X : Type 0} (front rows : List X) (x : X) (k : ℕ) → rows ≡ front ++ x ∷ [] → length rows ≡ suc k → slice_get rows k ≡ Some x
at_end front rows x k is long =
    let all = length-append front (x ∷ []) in
    let same : length front ≡ k = (let l = ap length is in omega (arith, all, l, long)) in
    ap (λ l. slice_get l k) is ∙ ap (slice_get (front ++ x ∷ [])) (sym same) ∙ last front x
  where
    last : {Y : Type 0} (ys : List Y) (y : Y) → slice_get (ys ++ y ∷ []) (length ys) ≡ Some y
    last [] y = refl
    last (z ∷ ys) y = last ys y

last_counts : (c : Contents) (n : ℕ) → length (c SEAL) ≡ n → ((k : ℕ) → n ≡ suc k → (v : CoreValue) × HasSealed c k v) → (s : Sealed) → IsLastSeal c s → LastCounts c n
last_counts c n long sealed s (inl (none, zeros)) = record {
  seal = record { procedures = pos 0; calls = pos 0; turns = pos 0; replies = pos 0 };
  before = record { none = λ is. refl; before = λ k is. absurd (let l = ap length none in omega (arith, l, long, is)) };
  counts = s;
  is_last = inl (none, zeros);
  calls = ap (λ (x : Sealed). pos x.calls) (sym zeros);
  turns = ap (λ (x : Sealed). pos x.turns) (sym zeros);
  replies = ap (λ (x : Sealed). pos x.replies) (sym zeros);
  procedures = 0;
  procedures_are = refl;
  few = omega arith;
}
last_counts c zero long sealed s (inr (number, seal, last, counted)) = absurd (let l = ap length last.columns_are ∙ length-append last.front (seal_columns seal ∷ []) in omega (arith, l, long))
last_counts c (suc k) long sealed s (inr (number, seal, last, counted)) =
    let at : slice_get (c SEAL) k ≡ Some (seal_columns seal) = at_end last.front (c SEAL) (seal_columns seal) k last.columns_are long in
    let has = (sealed k refl).1 in
    let both : Some (seal_columns has.there.last) ≡ Some (seal_columns seal) = sym has.there.seal ∙ at in
    let same : has.there.last.procedures ≡ seal.procedures = cc in
    record {
      seal = seal;
      before = record { none = λ is. absurd (omega (arith, is)); before = λ j is. (let here : k ≡ j = omega (arith, is) in subst (λ i. slice_get (c SEAL) i ≡ Some (seal_columns seal)) here at) };
      counts = s;
      is_last = inr (number, seal, last, counted);
      calls = counted.0;
      turns = counted.1;
      replies = counted.2;
      procedures = has.there.procedures.to;
      procedures_are = sym same ∙ has.there.procedures.last_is;
      few = has.there.procedures.inside;
    }

pub epoch_at : {X : Type 0} (xs : List X) (n : ℕ) → n < length xs → (x : X) × (slice_get xs n ≡ Some x)
epoch_at [] n less = absurd (omega (arith, less))
epoch_at (x ∷ xs) zero less = (x, refl)
epoch_at (x ∷ xs) (suc n) less = epoch_at xs n (omega (arith, less))

parents_behind : (parents : List ℕ) (es : List PastEpoch) (e : PastEpoch) → parents_after parents (es ++ e ∷ []) ≡ e.core.parents
parents_behind parents [] e = refl
parents_behind parents (f ∷ es) e = parents_behind f.core.parents es e

records_behind : (records : Records) (es : List PastEpoch) (e : PastEpoch) → records_after records (es ++ e ∷ []) ≡ left_by e
records_behind records [] e = refl
records_behind records (f ∷ es) e = records_behind (left_by f) es e

one_at_end : {X : Type 0} (xs : List X) (y : X) (n : ℕ) → n ≡ length xs → slice_get (xs ++ y ∷ []) n ≡ Some y
one_at_end [] y n is = ap (λ k. slice_get (y ∷ []) k) is
one_at_end (x ∷ xs) y zero is = absurd (omega (arith, is))
one_at_end (x ∷ xs) y (suc n) is = one_at_end xs y n (omega (arith, is))

module _ (c : Contents) (n : Batch) (t : TreeValue) (es : List PastEpoch) (v w : CoreValue) (h : HasHistory c t es v) (later : Later v w) (reached : IsReached w) (done : AllDone w.past) (ends : EndsEpoch c v w n) where
  abbrev now : Contents
  now = after_batch c n

  abbrev epoch : PastEpoch
  epoch = record { added = h.added; core = w }

  counted : LastCounts c (length es)
  counted = last_counts c (length es) h.history.many
      (λ k is. let e = epoch_at es k (omega (arith, is)) in (e.0.core, h.history.each k e.0 e.1)) h.ledger.there.last.0 h.ledger.there.last.1

  last_news : IsLastNewsOf c v w n
  last_news = record { nodes = ends.news.nodes; new = ends.news.new; procedures = ends.news.procedures; new_are = ends.news.new_are; accepted = ends.news.accepted; sealed = ends.seal }

  sealed_rows : AreRowsOf (length es) (added h.ledger.rows n) w
  sealed_rows = subst (λ e. AreRowsOf e (added h.ledger.rows n) w) h.history.many
      (now_rows (length (c SEAL)) h.ledger.rows v w (record n { seals = []; records = [] }) h.ledger.right later reached ends.news)

  before_now : IsSealBefore now (length es) counted.seal
  before_now = record { none = counted.before.none; before = λ k is. (let at = counted.before.before k is in at_longer (c SEAL) (map seal_columns n.seals) k (seal_columns counted.seal) at) }

  seal_now : IsSealAt now (length es) ends.seal.seal
  seal_now = ap (λ l. slice_get (c SEAL ++ map seal_columns l) (length es)) ends.seal.seals ∙ one_at_end (c SEAL) (seal_columns ends.seal.seal) (length es) (sym h.history.many)

  all_procedures : c PROCEDURE ≡ map procedure_columns h.ledger.rows.procedures
  all_procedures = h.ledger.there.procedures

  procedures_now : map procedure_columns (h.ledger.rows.procedures ++ n.procedures) ≡ now PROCEDURE
  procedures_now = map-append procedure_columns h.ledger.rows.procedures n.procedures ∙ ap (λ l. l ++ map procedure_columns n.procedures) (sym all_procedures)

  many_procedures : length (now PROCEDURE) ≡ length (c PROCEDURE) + length n.procedures
  many_procedures = length-append (c PROCEDURE) (map procedure_columns n.procedures) ∙ ap (λ k. length (c PROCEDURE) + k) (length-map n.procedures procedure_columns)

  pub sealed_now : HasSealed now (length es) w
  sealed_now =
      let behind = h.ledger.there.behind counted.counts counted.is_last in record {
        rows = added h.ledger.rows n;
        there = record {
          first = counted.seal;
          last = ends.seal.seal;
          before = before_now;
          seal = seal_now;
          nodes = record {
            others = [];
            all = ap (λ l. c NODE ++ map node_columns l) ends.news.nodes ∙ append-nil (c NODE) ∙ h.ledger.there.nodes ∙ ap (map node_columns) (sym (append-nil h.ledger.rows.nodes));
            there = h.nodes;
            to_come = All-nil _;
          };
          procedures = rest_between procedure_columns (c PROCEDURE) (pos 0) ends.seal.seal.procedures 0 h.ledger.rows.procedures n.procedures refl ends.seal.procedures (omega arith) (sym all_procedures);
          new = take (length (c PROCEDURE) + length n.procedures - counted.procedures) (drop counted.procedures (h.ledger.rows.procedures ++ n.procedures));
          new_are = some_between procedure_columns (now PROCEDURE) (h.ledger.rows.procedures ++ n.procedures) counted.seal.procedures ends.seal.seal.procedures counted.procedures
              (length (c PROCEDURE) + length n.procedures) procedures_now counted.procedures_are ends.seal.procedures (omega (arith, counted.few)) (omega (arith, many_procedures));
          calls = rest_between call_columns (c CALL) counted.seal.calls ends.seal.seal.calls counted.counts.calls h.ledger.rows.calls n.calls counted.calls ends.seal.calls behind.few_calls behind.calls;
          turns = rest_between turn_columns (c TURN) counted.seal.turns ends.seal.seal.turns counted.counts.turns h.ledger.rows.turns n.turns counted.turns ends.seal.turns behind.few_turns behind.turns;
          replies = rest_between reply_columns (c REPLY) counted.seal.replies ends.seal.seal.replies counted.counts.replies h.ledger.rows.replies n.replies counted.replies ends.seal.replies behind.few_replies behind.replies;
        };
        right = sealed_rows;
        replied = λ call known. has_reply h.ledger.rows.replies n.replies v w h.replied ends.replied call (done call (omega (arith, known, reached.counted)));
      }

  takes_over : TakesOver (parents_after t.parents es) (records_after t.records es) epoch
  takes_over = record {
    parents_are = later.parents ∙ h.goes_on.parents;
    opening = later.opening ∙ h.goes_on.opening;
    reached = reached;
    done = done;
  }

  next_ledger : IsLedgerOf now (opened_after w).seen
  next_ledger = ledger_seals c v w n h.ledger later reached last_news

  one_seal : length n.seals ≡ 1
  one_seal = ap length ends.seal.seals

  one_more : length (es ++ epoch ∷ []) ≡ length es + 1
  one_more = length-append es (epoch ∷ [])

  pub history_seals : HasHistory now t (es ++ epoch ∷ []) (opened_after w).seen
  history_seals =
      let no_nodes : All (IsOf (length (c SEAL))) n.nodes = subst (All (IsOf (length (c SEAL)))) (sym ends.news.nodes) (All-nil _) in
      let same_nodes : map node_columns next_ledger.rows.nodes ≡ map node_columns h.ledger.rows.nodes ++ map node_columns n.nodes =
      sym next_ledger.there.nodes ∙ ap (λ l. l ++ map node_columns n.nodes) h.ledger.there.nodes in
      record {
        history = history_longer c n t es epoch h.history one_seal no_nodes takes_over sealed_now;
        ledger = next_ledger;
        nodes = there_later (length es) (length (es ++ epoch ∷ [])) next_ledger.rows.nodes (omega (arith, one_more))
            (there_now (length es) h.ledger.rows.nodes n.nodes next_ledger.rows.nodes same_nodes h.nodes (subst (All (IsOf (length es))) (sym ends.news.nodes) (All-nil _)));
        added = [];
        goes_on = record {
          parents = sym (parents_behind t.parents es epoch) ∙ sym (append-nil (parents_after t.parents (es ++ epoch ∷ [])));
          opening = sym (records_behind t.records es epoch) ∙ sym (append-nil (records_after t.records (es ++ epoch ∷ [])));
        };
        replied = λ call over. absurd (false≢true over);
        entries = all_entries c n h.entries;
      }

-- ---- other contents with the same tables

reply_called : (k : ℕ) (x y : ReplyRow) → reply_columns x ≡ reply_columns y → x.call ≡ pos k → y.call ≡ pos k
reply_called k x y same is = let calls : x.call ≡ y.call = cc in sym calls ∙ is

has_told : (xs ys : List ReplyRow) (call : ℕ) → map reply_columns xs ≡ map reply_columns ys → HasReply xs call → HasReply ys call
has_told xs ys call same found =
    let long : length xs ≡ length ys = sym (length-map xs reply_columns) ∙ ap length same ∙ length-map ys reply_columns in
    let inside : found.0 < length ys = omega (arith, found.2, long) in
    let other = get_or ys found.0 found.1 in
    let columns : reply_columns (get_or xs found.0 found.1) ≡ reply_columns other =
    sym (get_or-map reply_columns xs found.0 found.1 (reply_columns found.1) found.2) ∙ ap (λ l. get_or l found.0 (reply_columns found.1)) same ∙ get_or-map reply_columns ys found.0 found.1 (reply_columns found.1) inside in
    (found.0, other, inside, get_or-inside ys found.0 found.1 inside, reply_called call found.1 other (ap reply_columns (sym found.3) ∙ columns) found.4)
  where
    get_or-inside : {X : Type 0} (zs : List X) (n : ℕ) (d : X) → n < length zs → get_or zs n (get_or zs n d) ≡ get_or zs n d
    get_or-inside [] n d less = absurd (omega (arith, less))
    get_or-inside (z ∷ zs) zero d less = refl
    get_or-inside (z ∷ zs) (suc n) d less = get_or-inside zs n d (omega (arith, less))

module _ (c d : Contents) (same : AreSame c d) (opening : d OPENING ≡ c OPENING) where
  sealed_again : (n : ℕ) (v : CoreValue) → HasSealed c n v → HasSealed d n v
  sealed_again n v has = record {
    rows = has.rows;
    there = record {
      first = has.there.first;
      last = has.there.last;
      before = record { none = has.there.before.none; before = λ k is. ap (λ l. slice_get l k) same.seals ∙ has.there.before.before k is };
      seal = ap (λ l. slice_get l n) same.seals ∙ has.there.seal;
      nodes = record { others = has.there.nodes.others; all = same.nodes ∙ has.there.nodes.all; there = has.there.nodes.there; to_come = has.there.nodes.to_come };
      procedures = subst (λ l. AreBetween procedure_columns l (pos 0) has.there.last.procedures has.rows.procedures) (sym same.procedures) has.there.procedures;
      new = has.there.new;
      new_are = subst (λ l. AreBetween procedure_columns l has.there.first.procedures has.there.last.procedures has.there.new) (sym same.procedures) has.there.new_are;
      calls = subst (λ l. AreBetween call_columns l has.there.first.calls has.there.last.calls has.rows.calls) (sym same.calls) has.there.calls;
      turns = subst (λ l. AreBetween turn_columns l has.there.first.turns has.there.last.turns has.rows.turns) (sym same.turns) has.there.turns;
      replies = subst (λ l. AreBetween reply_columns l has.there.first.replies has.there.last.replies has.rows.replies) (sym same.replies) has.there.replies;
    };
    right = has.right;
    replied = has.replied;
  }

  pub history_again : (t : TreeValue) (es : List PastEpoch) (v : CoreValue) → HasHistory c t es v → HasHistory d t es v
  history_again t es v h =
      let ledger = ledger_again c d v same h.ledger in
      let nodes : h.ledger.rows.nodes ≡ ledger.rows.nodes = nodes_told h.ledger.rows.nodes ledger.rows.nodes (sym h.ledger.there.nodes ∙ sym same.nodes ∙ ledger.there.nodes) in
      let s = h.ledger.there.last.0 in
      let last = h.ledger.there.last.1 in
      let replies : map reply_columns h.ledger.rows.replies ≡ map reply_columns ledger.rows.replies =
      (h.ledger.there.behind s last).replies ∙ ap (drop s.replies) (sym same.replies) ∙ sym (ledger.there.behind s (subst (λ l. IsLastSeal (λ t'. l) s) (sym same.seals) last)).replies in
      record {
        history = record {
          opening = opening ∙ h.history.opening;
          many = ap length same.seals ∙ h.history.many;
          line = h.history.line;
          each = λ n e at. sealed_again n e.core (h.history.each n e at);
        };
        ledger = ledger;
        nodes = subst (All (IsThere (length es))) nodes h.nodes;
        added = h.added;
        goes_on = h.goes_on;
        replied = λ call over. has_told h.ledger.rows.replies ledger.rows.replies call replies (h.replied call over);
        entries = record {
          calls = subst (λ l. AreEntries call_columns l 0) (sym same.calls) h.entries.calls;
          turns = subst (λ l. AreEntries turn_columns l 0) (sym same.turns) h.entries.turns;
          replies = subst (λ l. AreEntries reply_columns l 0) (sym same.replies) h.entries.replies;
          seals = subst (λ l. AreEntries seal_columns l 0) (sym same.seals) h.entries.seals;
        };
      }

-- rows that are added one after another, as one batch
pub history_joined : (c : Contents) (a b : Batch) (t : TreeValue) (es : List PastEpoch) (v : CoreValue) → All (λ (x : ChangedRecord). x.node < length (c RECORD ++ map new_columns a.nodes)) a.records
    → HasHistory (after_batch (after_batch c a) b) t es v → HasHistory (after_batch c (joined a b)) t es v
history_joined c a b t es v inside twice = history_again (after_batch (after_batch c a) b) (after_batch c (joined a b)) (record {
  nodes = same_nodes c a b inside;
  records = same_records c a b inside;
  procedures = same_procedures c a b inside;
  calls = same_calls c a b inside;
  turns = same_turns c a b inside;
  replies = same_replies c a b inside;
  seals = same_seals c a b inside;
}) refl t es v twice
