-- What stays in a store while rows are added behind it.
use Rattle.std.proofs.Common.{◌≡◌, ◌∙◌, ℕ, zero, suc, ◌-◌, ◌<◌, ◌≤◌, ◌⊎◌, ℤ, pos, List, [], ◌∷◌, ◌++◌, length, map, take, drop, refl, sym, ap, subst, inl, inr, arith, Some, slice_get}
use Rattle.std.specs.Prelude.{All}
use Rattle.std.proofs.lemmas.List.{append-nil, append_assoc, length-append, length-map, map-append, drop-append-le, take-append-le, length-drop}
use Rattle.std.proofs.lemmas.List.Elements.{All-append}
use Rattle.std.proofs.lemmas.Option.{slice_get_within}
use Rattle.sqlite_value.specs.Order.{Row}
use Rattle.tl_tree.specs.Records.{Records}
use Rattle.tl_tree.specs.Trees.{TreeValue}
use Rattle.tl_core.specs.Cores.{CoreValue}
use Rattle.tl_ledger.specs.declared.founding.Founding.{Founding}
use Rattle.tl_ledger.specs.declared.rows.NodeRow.{NodeRow}
use Rattle.tl_ledger.specs.declared.rows.RecordRow.{RecordRow}
use Rattle.tl_ledger.specs.declared.rows.SealRow.{SealRow}
use Rattle.tl_ledger.specs.declared.schema.TheConstants.{PROCEDURE, CALL, TURN, REPLY, SEAL}
use Rattle.tl_ledger.specs.Contents.{Contents, no_contents}
use Rattle.tl_ledger.specs.News.{fields_columns, node_columns, record_columns, after_founding, procedure_columns, call_columns, turn_columns, reply_columns, seal_columns}
use Rattle.tl_rows.specs.Batches.{Batch, after_batch}
use Rattle.tl_rows.specs.Rows.{fields_in}
use Rattle.tl_compare.specs.Epochs.{AreBetween, IsSealBefore, AreEpochRows, AreOfEpoch}
use Rattle.tl_compare.specs.declared.reading.EpochRows.{EpochRows}
use Rattle.tl_store_history.specs.Sealed.{IsOf, IsToCome, HasNodes, HasSealed}
use Rattle.tl_store_history.specs.History.{PastEpoch, TakesOver, AreInLine, left_by, parents_after, records_after, HasEpoch, IsHistoryOf}

-- what stands in some rows stands there with rows behind them
pub at_longer : {X : Type 0} (xs ys : List X) (n : ℕ) (x : X) → slice_get xs n ≡ Some x → slice_get (xs ++ ys) n ≡ Some x
at_longer [] ys n x at = absurd cc
at_longer (z ∷ xs) ys zero x at = at
at_longer (z ∷ xs) ys (suc n) x at = at_longer xs ys n x at

between_longer : {X : Type 0} (columns : X → Row) (rows more : List Row) (first last : ℤ) (xs : List X) → AreBetween columns rows first last xs → AreBetween columns (rows ++ more) first last xs
between_longer columns rows more first last xs are =
    let left : are.to - are.from ≤ length (drop are.from rows) = omega (arith, are.inside, are.order, length-drop are.from rows) in
    record {
      from = are.from;
      to = are.to;
      first_is = are.first_is;
      last_is = are.last_is;
      order = are.order;
      inside = omega (arith, are.inside, length-append rows more);
      are = are.are
          ∙ sym (ap (take (are.to - are.from)) (drop-append-le are.from rows more (omega (arith, are.inside, are.order)))
          ∙ take-append-le (are.to - are.from) (drop are.from rows) more left);
    }

-- one epoch more at the end of a line
line_longer : (parents : List ℕ) (records : Records) (es : List PastEpoch) (e : PastEpoch) → AreInLine parents records es → TakesOver (parents_after parents es) (records_after records es) e
    → AreInLine parents records (es ++ e ∷ [])
line_longer parents records [] e line takes = (takes, tt)
line_longer parents records (f ∷ es) e line takes = (line.0, line_longer f.core.parents (left_by f) es e line.1 takes)

-- an item of a list with one more is one of the list, or that one
one_of : {X : Type 0} (xs : List X) (y : X) (n : ℕ) (x : X) → slice_get (xs ++ y ∷ []) n ≡ Some x → (slice_get xs n ≡ Some x) ⊎ ((n ≡ length xs) × (y ≡ x))
one_of [] y zero x at = inr (refl, cc)
one_of [] y (suc n) x at = absurd cc
one_of (z ∷ xs) y zero x at = inl at
one_of (z ∷ xs) y (suc n) x at = elim (one_of xs y n x at) [
  | inl old ↦ inl old
  | inr new ↦ inr (ap suc new.0, new.1)
]

module _ (c : Contents) (b : Batch) where
  abbrev now : Contents
  now = after_batch c b

  before_longer : (epoch : ℕ) (seal : SealRow) → IsSealBefore c epoch seal → IsSealBefore now epoch seal
  before_longer epoch seal before = record {
    none = before.none;
    before = λ k is. at_longer (c SEAL) (map seal_columns b.seals) k (seal_columns seal) (before.before k is);
  }

  pub epoch_stays : (epoch : ℕ) (v : CoreValue) → HasEpoch c epoch v → HasEpoch now epoch v
  epoch_stays epoch v has = record {
    first = has.first;
    last = has.last;
    before = before_longer epoch has.first has.before;
    seal = at_longer (c SEAL) (map seal_columns b.seals) epoch (seal_columns has.last) has.seal;
    procedures = has.procedures;
    calls = has.calls;
    turns = has.turns;
    replies = has.replies;
    procedures_there = between_longer procedure_columns (c PROCEDURE) (map procedure_columns b.procedures) (pos 0) has.last.procedures has.procedures has.procedures_there;
    calls_there = between_longer call_columns (c CALL) (map call_columns b.calls) has.first.calls has.last.calls has.calls has.calls_there;
    turns_there = between_longer turn_columns (c TURN) (map turn_columns b.turns) has.first.turns has.last.turns has.turns has.turns_there;
    replies_there = between_longer reply_columns (c REPLY) (map reply_columns b.replies) has.first.replies has.last.replies has.replies has.replies_there;
    are_procedures = has.are_procedures;
    are_calls = has.are_calls;
    are_turns = has.are_turns;
    are_replies = has.are_replies;
  }

  pub nodes_stay : (epoch : ℕ) (nodes : List NodeRow) → All (IsToCome epoch) b.nodes → HasNodes c epoch nodes → HasNodes now epoch nodes
  nodes_stay epoch nodes come has = record {
    others = has.others ++ b.nodes;
    all = ap (λ l. l ++ map node_columns b.nodes) has.all ∙ sym (map-append node_columns (nodes ++ has.others) b.nodes) ∙ ap (map node_columns) (append_assoc nodes has.others b.nodes);
    there = has.there;
    to_come = All-append (IsToCome epoch) has.others b.nodes has.to_come come;
  }

  -- nodes that are appended come after each sealed epoch
  pub sealed_stays : (epoch : ℕ) (v : CoreValue) → epoch < length (c SEAL) → All (IsOf (length (c SEAL))) b.nodes → HasSealed c epoch v → HasSealed now epoch v
  sealed_stays epoch v less of has = record {
    rows = has.rows;
    there = record {
      first = has.there.first;
      last = has.there.last;
      before = before_longer epoch has.there.first has.there.before;
      seal = at_longer (c SEAL) (map seal_columns b.seals) epoch (seal_columns has.there.last) has.there.seal;
      nodes = nodes_stay epoch has.rows.nodes (λ k d inside. (length (c SEAL), of k d inside, less)) has.there.nodes;
      procedures = between_longer procedure_columns (c PROCEDURE) (map procedure_columns b.procedures) (pos 0) has.there.last.procedures has.rows.procedures has.there.procedures;
      new = has.there.new;
      new_are = between_longer procedure_columns (c PROCEDURE) (map procedure_columns b.procedures) has.there.first.procedures has.there.last.procedures has.there.new has.there.new_are;
      calls = between_longer call_columns (c CALL) (map call_columns b.calls) has.there.first.calls has.there.last.calls has.rows.calls has.there.calls;
      turns = between_longer turn_columns (c TURN) (map turn_columns b.turns) has.there.first.turns has.there.last.turns has.rows.turns has.there.turns;
      replies = between_longer reply_columns (c REPLY) (map reply_columns b.replies) has.there.first.replies has.there.last.replies has.rows.replies has.there.replies;
    };
    right = has.right;
    replied = has.replied;
  }

  pub history_stays : (t : TreeValue) (es : List PastEpoch) → IsHistoryOf c t es → b.seals ≡ [] → All (IsOf (length (c SEAL))) b.nodes → IsHistoryOf now t es
  history_stays t es history none of = record {
    opening = history.opening;
    many = ap (λ l. length (c SEAL ++ map seal_columns l)) none ∙ ap length (append-nil (c SEAL)) ∙ history.many;
    line = history.line;
    each = λ n e at. sealed_stays n e.core (let inside = slice_get_within es n e at in omega (arith, inside, history.many)) of (history.each n e at);
  }

  pub history_longer : (t : TreeValue) (es : List PastEpoch) (e : PastEpoch) → IsHistoryOf c t es → length b.seals ≡ 1 → All (IsOf (length (c SEAL))) b.nodes
      → TakesOver (parents_after t.parents es) (records_after t.records es) e → HasSealed now (length es) e.core → IsHistoryOf now t (es ++ e ∷ [])
  history_longer t es e history one of takes has = record {
    opening = history.opening;
    many = omega (arith, history.many, length-append (c SEAL) (map seal_columns b.seals), length-map b.seals seal_columns, one, length-append es (e ∷ []));
    line = line_longer t.parents t.records es e history.line takes;
    each = λ n f at. elim (one_of es e n f at) [
      | inl old ↦ sealed_stays n f.core (let inside = slice_get_within es n f old in omega (arith, inside, history.many)) of (history.each n f old)
      | inr new ↦ subst (λ k. HasSealed now k f.core) (sym new.0) (subst (λ (x : PastEpoch). HasSealed now (length es) x.core) new.1 has)
    ];
  }

-- what was read of an epoch, and found to be the rows of a core's calls
pub epoch_compared : (c : Contents) (epoch : ℕ) (rows : EpochRows) (v : CoreValue) → AreEpochRows c epoch rows → AreOfEpoch rows v → HasEpoch c epoch v
epoch_compared c epoch rows v there are = record {
  first = there.first;
  last = there.last;
  before = there.before;
  seal = there.seal;
  procedures = rows.procedures.items;
  calls = rows.calls.items;
  turns = rows.turns.items;
  replies = rows.replies.items;
  procedures_there = there.procedures;
  calls_there = there.calls;
  turns_there = there.turns;
  replies_there = there.replies;
  are_procedures = are.procedures;
  are_calls = rw (sym there.number) are.calls;
  are_turns = rw (sym there.number) are.turns;
  are_replies = rw (sym there.number) are.replies;
}

record_fields : (rows : List RecordRow) → map record_columns rows ≡ map fields_columns (map fields_in rows)
record_fields [] = refl
record_fields (r ∷ rows) = ap (λ l. record_columns r ∷ l) (record_fields rows)

-- the first contents
pub history_founded : (t : TreeValue) (first : Founding) → map fields_in first.records.items ≡ t.records → IsHistoryOf (after_founding no_contents first) t []
history_founded t first same = record {
  opening = record_fields first.records.items ∙ ap (map fields_columns) same;
  many = refl;
  line = tt;
  each = λ n e at. absurd cc;
}
