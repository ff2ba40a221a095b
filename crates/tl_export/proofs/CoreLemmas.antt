-- The rows that are read of an epoch are those of its core.
use Rattle.std.proofs.Common.{◌≡◌, ℕ, zero, suc, ℤ, pos, List, [], ◌∷◌, ◌++◌, length, map, drop, replicate, refl, sym, ap, ap₂, ◌∙◌, subst, inl, inr, arith}
use Rattle.std.proofs.lemmas.List.{length-append, length-map, length-replicate}
use Rattle.sqlite_value.specs.Order.{Row}
use Rattle.tl_core.specs.Cores.{CoreValue}
use Rattle.tl_core.specs.Reached.{IsReached}
use Rattle.tl_ledger.specs.declared.rows.SealRow.{SealRow}
use Rattle.tl_ledger.specs.declared.schema.TheConstants.{NODE, RECORD, PROCEDURE, CALL, TURN, REPLY, SEAL}
use Rattle.tl_ledger.specs.Contents.{Contents, no_contents, with_rows}
use Rattle.tl_ledger.specs.News.{node_columns, record_columns, procedure_columns, call_columns, turn_columns, reply_columns, seal_columns}
use Rattle.tl_rows.specs.Rows.{parent_in, fields_in}
use Rattle.tl_store.specs.declared.stored.Sealed.{Sealed}
use Rattle.tl_store.specs.declared.stored.Stored.{Stored}
use Rattle.tl_store.specs.Stored.{IsLastSeal, AreStored}
use Rattle.tl_store.specs.Recovered.{AreOfCore}
use Rattle.tl_store_laws.specs.Growing.{RowsValue, AreBehindCounts, AreRowsIn, IsLedgerOf}
use Rattle.tl_store_laws.proofs.Columns.{ledger_is_store}
use Rattle.tl_export.specs.declared.counts.Counts.{Counts}
use Rattle.tl_export.specs.declared.plan.Plan.{Plan}
use Rattle.tl_export.specs.Epochs.{between, AreRowsOf}
use Rattle.tl_export.proofs.RowsLemmas.{RowsAt, ends_same, beginnings_same}

abbrev no_counts : Sealed
no_counts = record { calls = 0; turns = 0; replies = 0 }

-- a seal that counts nothing
abbrev empty_seal : SealRow
empty_seal = record { procedures = pos 0; calls = pos 0; turns = pos 0; replies = pos 0 }

last_alike : (n : ℕ) (x y : Row) (front : List Row) → replicate n x ≡ front ++ y ∷ [] → x ≡ y
last_alike zero x y front same = absurd (let l = ap length same in let long = length-append front (y ∷ []) in omega (arith, l, long))
last_alike (suc zero) x y [] same = let h : x ≡ y = cc in h
last_alike (suc (suc n)) x y [] same = absurd (let l = ap length same in let long = length-replicate n x in omega (arith, l, long))
last_alike (suc n) x y (z ∷ front) same = let tails : replicate n x ≡ front ++ y ∷ [] = cc in last_alike n x y front tails

seals_empty : (n : ℕ) (c : Contents) → c SEAL ≡ replicate n (seal_columns empty_seal) → IsLastSeal c no_counts
seals_empty zero c is = inl (is, refl)
seals_empty (suc n) c is = inr (n, empty_seal, record { front = replicate n (seal_columns empty_seal); number_is = length-replicate n (seal_columns empty_seal); columns_are = is ∙ behind n }, (refl, refl, refl))
  where
    behind : (k : ℕ) → replicate (suc k) (seal_columns empty_seal) ≡ replicate k (seal_columns empty_seal) ++ seal_columns empty_seal ∷ []
    behind zero = refl
    behind (suc k) = ap (λ l. seal_columns empty_seal ∷ l) (behind k)

pos_zero : (a : ℕ) (x : ℤ) → x ≡ pos 0 → x ≡ pos a → a ≡ 0
pos_zero a x none is = let same : pos a ≡ pos 0 = sym is ∙ none in cc

counts_empty : (n : ℕ) (c : Contents) (s : Sealed) → c SEAL ≡ replicate n (seal_columns empty_seal) → IsLastSeal c s → (s.calls ≡ 0) × (s.turns ≡ 0) × (s.replies ≡ 0)
counts_empty n c s is (inl (none, zeros)) = (ap (λ (x : Sealed). x.calls) zeros, ap (λ (x : Sealed). x.turns) zeros, ap (λ (x : Sealed). x.replies) zeros)
counts_empty n c s is (inr (number, seal, last, counted)) =
    let same : seal_columns empty_seal ≡ seal_columns seal = last_alike n (seal_columns empty_seal) (seal_columns seal) last.front (sym is ∙ last.columns_are) in
    let calls : seal.calls ≡ pos 0 = cc in
    let turns : seal.turns ≡ pos 0 = cc in
    let replies : seal.replies ≡ pos 0 = cc in
    (pos_zero s.calls seal.calls calls counted.0, pos_zero s.turns seal.turns turns counted.1, pos_zero s.replies seal.replies replies counted.2)

module _ (c : Contents) (p : Plan) (n : ℕ) (v : CoreValue) (reached : IsReached v) (at : RowsAt c p n v) (s : Stored) (read : AreRowsOf c p n s) (records : map fields_in s.records.items ≡ v.opening) where
  first_same : at.first ≡ read.first
  first_same = beginnings_same p.seals.items p.marks n at.first read.first at.beginning read.beginning

  last_same : at.last ≡ read.last
  last_same = ends_same p.seals.items p.marks n at.last read.last at.end read.end

  -- contents that have these rows alone
  abbrev alone : Contents
  alone = with_rows (with_rows (with_rows (with_rows (with_rows (with_rows (with_rows no_contents
      NODE (map node_columns at.rows.nodes))
      RECORD (map record_columns s.records.items))
      PROCEDURE (map procedure_columns at.rows.procedures))
      CALL (map call_columns at.rows.calls))
      TURN (map turn_columns at.rows.turns))
      REPLY (map reply_columns at.rows.replies))
      SEAL (replicate n (seal_columns empty_seal))

  abbrev own : RowsValue
  own = record { nodes = at.rows.nodes; records = s.records.items; procedures = at.rows.procedures; calls = at.rows.calls; turns = at.rows.turns; replies = at.rows.replies }

  behind : (x : Sealed) → IsLastSeal alone x → AreBehindCounts alone x own
  behind x last =
      let none = counts_empty n alone x refl last in record {
        few_calls = omega (arith, none.0);
        few_turns = omega (arith, none.1);
        few_replies = omega (arith, none.2);
        calls = sym (ap (λ k. drop k (map call_columns at.rows.calls)) none.0);
        turns = sym (ap (λ k. drop k (map turn_columns at.rows.turns)) none.1);
        replies = sym (ap (λ k. drop k (map reply_columns at.rows.replies)) none.2);
      }

  ledger : IsLedgerOf alone v
  ledger = record {
    rows = own;
    there = record { nodes = refl; records = refl; procedures = refl; last = (no_counts, seals_empty n alone refl); behind = behind };
    right = subst (λ e. Rattle.tl_store_laws.specs.Growing.AreRowsOf e own v) (sym (length-replicate n (seal_columns empty_seal))) (record {
      parents = at.right.parents;
      records = records;
      all = at.right.all;
      procedures = at.right.procedures;
      latest_are = at.right.latest_are;
      allowed = at.right.allowed;
      accepted = at.right.accepted;
      epoch_is = at.right.epoch_is;
      numbered = at.right.numbered;
      many = at.right.many;
      calls = at.right.calls;
      turn_rows = at.right.turn_rows;
      turns = at.right.turns;
      replies = at.right.replies;
    });
  }

  -- the rows, with the numbers of these contents
  abbrev marked : Stored
  marked = record s {
    marks = record {
      nodes = length (map node_columns at.rows.nodes);
      procedures = length (map procedure_columns at.rows.procedures);
      calls = length (map call_columns at.rows.calls);
      turns = length (map turn_columns at.rows.turns);
      replies = length (map reply_columns at.rows.replies);
      seals = s.marks.seals;
    };
  }

  as_many : length (map record_columns s.records.items) ≡ length (map node_columns at.rows.nodes)
  as_many =
      let rows : length s.records.items ≡ length v.opening = sym (length-map s.records.items fields_in) ∙ ap length records in
      let nodes : length at.rows.nodes ≡ length v.parents = sym (length-map at.rows.nodes parent_in) ∙ ap length at.right.parents ∙ length-map v.parents pos in
      length-map s.records.items record_columns ∙ rows ∙ reached.sound.size ∙ sym nodes ∙ sym (length-map at.rows.nodes node_columns)

  stored : AreStored alone marked
  stored = record {
    marked = record { nodes = refl; records = as_many; procedures = refl; calls = refl; turns = refl; replies = refl; seals = length-replicate n (seal_columns empty_seal) ∙ sym read.number };
    nodes = ap (map node_columns) (at.nodes ∙ sym read.nodes);
    records = refl;
    procedures = at.procedures ∙ ap (λ (k : Counts). between 0 k.procedures (c PROCEDURE)) last_same ∙ sym read.procedures;
    sealed = no_counts;
    is_last = seals_empty n alone refl;
    calls = read.calls ∙ sym (ap₂ (λ (k l : Counts). between k.calls l.calls (c CALL)) first_same last_same) ∙ sym at.calls;
    turns = read.turns ∙ sym (ap₂ (λ (k l : Counts). between k.turns l.turns (c TURN)) first_same last_same) ∙ sym at.turns;
    replies = read.replies ∙ sym (ap₂ (λ (k l : Counts). between k.replies l.replies (c REPLY)) first_same last_same) ∙ sym at.replies;
  }

  of_marked : AreOfCore marked v
  of_marked = ledger_is_store alone v ledger marked stored

  pub are_of_core : AreOfCore s v
  are_of_core = record {
    parents = of_marked.parents;
    records = of_marked.records;
    all = of_marked.all;
    procedures = of_marked.procedures;
    latest_are = of_marked.latest_are;
    allowed = of_marked.allowed;
    accepted = of_marked.accepted;
    epoch = of_marked.epoch;
    numbered = of_marked.numbered;
    many = of_marked.many;
    calls = of_marked.calls;
    turn_rows = of_marked.turn_rows;
    turns = of_marked.turns;
    replies = of_marked.replies;
  }
