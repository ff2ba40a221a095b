-- The first contents of a store are the rows of a core without calls.
use Rattle.std.proofs.Common.{◌≡◌, ℕ, ◌+◌, ◌<◌, ◌≤◌, ℤ, pos, List, [], ◌∷◌, ◌++◌, length, map, drop, refl, sym, ap, ◌∙◌, subst, inl, inr, arith, Option, Some, slice_get}
use Rattle.std.specs.Prelude.{All}
use Rattle.std.proofs.lemmas.List.{length-append}
use Rattle.std.proofs.lemmas.List.Elements.{All-nil}
use Rattle.sqlite_value.specs.Order.{Row}
use Rattle.tl_tree.specs.Trees.{TreeValue}
use Rattle.tl_core.specs.Cores.{CoreValue, opened}
use Rattle.tl_ledger.specs.declared.founding.Founding.{Founding}
use Rattle.tl_ledger.specs.declared.schema.TheConstants.{NODE, RECORD, PROCEDURE, CALL, TURN, REPLY, SEAL}
use Rattle.tl_ledger.specs.Contents.{Contents, no_contents}
use Rattle.tl_ledger.specs.News.{procedure_columns, after_founding}
use Rattle.tl_rows.specs.Rows.{parent_in, fields_in}
use Rattle.tl_store.specs.declared.stored.Sealed.{Sealed}
use Rattle.tl_store.specs.Stored.{IsLastSeal}
use Rattle.tl_store_laws.specs.Growing.{RowsValue, AreRowsOf, AreBehindCounts, IsLedgerOf}

no_last : (front : List Row) (last : Row) → [] ≡ front ++ last ∷ [] → ⊥
no_last front last same = let l = ap length same in let long = length-append front (last ∷ []) in omega arith

module _ (t : TreeValue) (limit : ℕ) (first : Founding) (parents : map parent_in first.nodes.items ≡ map pos t.parents) (records : map fields_in first.records.items ≡ t.records)
    (procedures : first.procedures.items ≡ []) where
  abbrev now : Contents
  now = after_founding no_contents first

  abbrev rows : RowsValue
  rows = record { nodes = first.nodes.items; records = first.records.items; procedures = []; calls = []; turns = []; replies = [] }

  behind : (s : Sealed) → IsLastSeal now s → AreBehindCounts now s rows
  behind s (inl (empty, zeros)) = record {
    few_calls = (let z = ap (λ (x : Sealed). x.calls) zeros in omega arith);
    few_turns = (let z = ap (λ (x : Sealed). x.turns) zeros in omega arith);
    few_replies = (let z = ap (λ (x : Sealed). x.replies) zeros in omega arith);
    calls = sym (ap (λ (x : Sealed). drop x.calls (now CALL)) zeros);
    turns = sym (ap (λ (x : Sealed). drop x.turns (now TURN)) zeros);
    replies = sym (ap (λ (x : Sealed). drop x.replies (now REPLY)) zeros);
  }
  behind s (inr (number, seal, last, counted)) = absurd (no_last last.front _ last.columns_are)

  right : AreRowsOf 0 rows (opened t [] limit).seen
  right = record {
    parents = parents;
    records = records;
    all = [];
    procedures = refl;
    latest_are = refl;
    allowed = tt;
    accepted = All-nil _;
    epoch_is = All-nil _;
    numbered = λ k less. absurd (omega arith);
    many = refl;
    calls = λ k row at. absurd (let z : ⊥ = cc in z);
    turn_rows = All-nil _;
    turns = refl;
    replies = All-nil _;
  }

  pub founded : IsLedgerOf now (opened t [] limit).seen
  founded = record {
    rows = rows;
    there = record {
      nodes = refl;
      records = refl;
      procedures = ap (map procedure_columns) procedures;
      last = (record { calls = 0; turns = 0; replies = 0 }, inl (refl, refl));
      behind = behind;
    };
    right = right;
  }
