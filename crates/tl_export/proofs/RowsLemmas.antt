-- The rows of each epoch of a store that has a history.
use Rattle.std.proofs.Common.{◌≡◌, ℕ, zero, suc, ◌-◌, ◌<◌, ◌≤◌, nat_le, pos, true, false, if◌then◌else◌, List, [], ◌∷◌, ◌++◌, length, map, take, drop, refl, sym, ap, ap₂, ◌∙◌, subst, inl, inr, arith, Option, Some, None, slice_get, IfSome, IfNone}
use Rattle.std.specs.Prelude.{All}
use Rattle.std.proofs.lemmas.List.{append-nil, length-append, length-map, length-drop, take_all}
use Rattle.sqlite_value.specs.Order.{Row}
use Rattle.tl_core.specs.Cores.{CoreValue}
use Rattle.tl_ledger.specs.declared.committing.Marks.{Marks}
use Rattle.tl_ledger.specs.declared.rows.NodeRow.{NodeRow}
use Rattle.tl_ledger.specs.declared.rows.SealRow.{SealRow}
use Rattle.tl_ledger.specs.declared.schema.TheConstants.{PROCEDURE, CALL, TURN, REPLY, SEAL}
use Rattle.tl_ledger.specs.Contents.{Contents}
use Rattle.tl_ledger.specs.News.{node_columns, procedure_columns, call_columns, turn_columns, reply_columns, seal_columns}
use Rattle.tl_store.specs.declared.stored.Sealed.{Sealed}
use Rattle.tl_store.specs.Stored.{IsLastSeal}
use Rattle.tl_store_laws.specs.Growing.{RowsValue, AreRowsOf, IsLedgerOf}
use Rattle.tl_store_history.specs.Sealed.{IsThere, IsToCome, HasNodes, HasSealed}
use Rattle.tl_store_history.proofs.Whole.{nodes_told, at_end}
use Rattle.tl_export.specs.declared.counts.Counts.{Counts}
use Rattle.tl_export.specs.declared.plan.Plan.{Plan}
use Rattle.tl_export.specs.Plans.{IsPlanOf}
use Rattle.tl_export.specs.Counts.{no_rows, all_rows, IsCounted, AreAtEnd, AreAtBeginning, AreInOrder}
use Rattle.tl_export.specs.Epochs.{is_by, nodes_at, nodes_of, between}

-- the rows of epoch n, between these counts, are those of this core
pub record RowsAt (c : Contents) (p : Plan) (n : ℕ) (v : CoreValue) : Type 0 where
  pub rows : RowsValue
  pub first : Counts
  pub last : Counts
  pub beginning : AreAtBeginning p.seals.items p.marks n first
  pub end : AreAtEnd p.seals.items p.marks n last
  pub order : AreInOrder first last
  pub inside : AreInOrder last (all_rows p.marks)
  pub nodes : rows.nodes ≡ nodes_of p n
  pub count : nodes_at n p.nodes.items ≡ length rows.nodes
  pub procedures : map procedure_columns rows.procedures ≡ between 0 last.procedures (c PROCEDURE)
  pub calls : map call_columns rows.calls ≡ between first.calls last.calls (c CALL)
  pub turns : map turn_columns rows.turns ≡ between first.turns last.turns (c TURN)
  pub replies : map reply_columns rows.replies ≡ between first.replies last.replies (c REPLY)
  pub right : AreRowsOf n rows v

pos_same : (a b : ℕ) → pos a ≡ pos b → a ≡ b
pos_same a b same = cc

-- ---- seals

seal_told : (x y : SealRow) → seal_columns x ≡ seal_columns y → x ≡ y
seal_told x y same =
    let procedures : x.procedures ≡ y.procedures = cc in
    let calls : x.calls ≡ y.calls = cc in
    let turns : x.turns ≡ y.turns = cc in
    let replies : x.replies ≡ y.replies = cc in
    λ i. record { procedures = procedures i; calls = calls i; turns = turns i; replies = replies i }

seal_at : (seals : List SealRow) (n : ℕ) (seal : SealRow) → slice_get (map seal_columns seals) n ≡ Some (seal_columns seal) → slice_get seals n ≡ Some seal
seal_at [] n seal at = absurd cc
seal_at (x ∷ seals) zero seal at = let same : seal_columns x ≡ seal_columns seal = cc in ap Some (seal_told x seal same)
seal_at (x ∷ seals) (suc n) seal at = seal_at seals n seal at

none_at : {X : Type 0} (xs : List X) (n : ℕ) → n ≡ length xs → slice_get xs n ≡ None
none_at [] n is = refl
none_at (x ∷ xs) zero is = absurd (omega (arith, is))
none_at (x ∷ xs) (suc n) is = none_at xs n (omega (arith, is))

at_seal : (o : Option SealRow) (m : Marks) (seal : SealRow) (last : Counts) → o ≡ Some seal → IsCounted seal last → IfSome o (λ s. IsCounted s last) × IfNone o (last ≡ all_rows m)
at_seal o m seal last is counted = subst (λ (x : Option SealRow). IfSome x (λ s. IsCounted s last) × IfNone x (last ≡ all_rows m)) (sym is) (counted, tt)

at_none : (o : Option SealRow) (m : Marks) → o ≡ None → IfSome o (λ s. IsCounted s (all_rows m)) × IfNone o (all_rows m ≡ all_rows m)
at_none o m is = subst (λ (x : Option SealRow). IfSome x (λ s. IsCounted s (all_rows m)) × IfNone x (all_rows m ≡ all_rows m)) (sym is) (tt, refl)

-- counts of a seal tell each other
counted_same : (seal : SealRow) (a b : Counts) → IsCounted seal a → IsCounted seal b → a ≡ b
counted_same seal a b is_a is_b =
    let procedures = pos_same a.procedures b.procedures (sym is_a.procedures ∙ is_b.procedures) in
    let calls = pos_same a.calls b.calls (sym is_a.calls ∙ is_b.calls) in
    let turns = pos_same a.turns b.turns (sym is_a.turns ∙ is_b.turns) in
    let replies = pos_same a.replies b.replies (sym is_a.replies ∙ is_b.replies) in
    λ i. record { procedures = procedures i; calls = calls i; turns = turns i; replies = replies i }

end_of : (o : Option SealRow) (m : Marks) (a b : Counts) → IfSome o (λ s. IsCounted s a) → IfNone o (a ≡ all_rows m) → IfSome o (λ s. IsCounted s b) → IfNone o (b ≡ all_rows m) → a ≡ b
end_of (Some seal) m a b some_a none_a some_b none_b = counted_same seal a b some_a some_b
end_of None m a b some_a none_a some_b none_b = none_a ∙ sym none_b

pub ends_same : (seals : List SealRow) (m : Marks) (n : ℕ) (a b : Counts) → AreAtEnd seals m n a → AreAtEnd seals m n b → a ≡ b
ends_same seals m n a b is_a is_b = end_of (slice_get seals n) m a b is_a.sealed is_a.unsealed is_b.sealed is_b.unsealed

pub beginnings_same : (seals : List SealRow) (m : Marks) (n : ℕ) (a b : Counts) → AreAtBeginning seals m n a → AreAtBeginning seals m n b → a ≡ b
beginnings_same seals m zero a b is_a is_b = is_a.none refl ∙ sym (is_b.none refl)
beginnings_same seals m (suc n) a b is_a is_b = ends_same seals m n a b (is_a.before n refl) (is_b.before n refl)

-- ---- nodes

by_then : (n k : ℕ) → k ≤ n → nat_le k n ≡ true
by_then n k few = grind arith

not_by_then : (n k : ℕ) → n < k → nat_le k n ≡ false
not_by_then n k less = grind arith

there_first : (P : NodeRow → Type 0) (x : NodeRow) (xs : List NodeRow) → All P (x ∷ xs) → P x
there_first P x xs all = all 0 x (omega arith)

there_rest : (P : NodeRow → Type 0) (x : NodeRow) (xs : List NodeRow) → All P (x ∷ xs) → All P xs
there_rest P x xs all = λ k d less. all (suc k) d (omega (arith, less))

none_there : (n : ℕ) (others : List NodeRow) → All (IsToCome n) others → nodes_at n others ≡ 0
none_there n [] come = refl
none_there n (x ∷ others) come =
    let first = there_first (IsToCome n) x others come in
    let later : is_by n x.epoch ≡ false = ap (is_by n) first.1 ∙ not_by_then n first.0 first.2 in
    ap (λ b. if b then suc (nodes_at n others) else 0) later

all_there : (n : ℕ) (nodes others : List NodeRow) → All (IsThere n) nodes → All (IsToCome n) others → nodes_at n (nodes ++ others) ≡ length nodes
all_there n [] others there come = none_there n others come
all_there n (x ∷ nodes) others there come =
    let first = there_first (IsThere n) x nodes there in
    let is : is_by n x.epoch ≡ true = ap (is_by n) first.1 ∙ by_then n first.0 first.2 in
    ap (λ b. if b then suc (nodes_at n (nodes ++ others)) else 0) is ∙ ap suc (all_there n nodes others (there_rest (IsThere n) x nodes there) come)

front : {X : Type 0} (xs ys : List X) → take (length xs) (xs ++ ys) ≡ xs
front [] ys = refl
front (x ∷ xs) ys = ap (λ l. x ∷ l) (front xs ys)

module _ (c : Contents) (p : Plan) (plan : IsPlanOf c p) (n : ℕ) (nodes : List NodeRow) (has : HasNodes c n nodes) where
  all_nodes : p.nodes.items ≡ nodes ++ has.others
  all_nodes = nodes_told p.nodes.items (nodes ++ has.others) (sym plan.nodes ∙ has.all)

  pub node_count : nodes_at n p.nodes.items ≡ length nodes
  node_count = ap (nodes_at n) all_nodes ∙ all_there n nodes has.others has.there has.to_come

  pub nodes_are : nodes ≡ nodes_of p n
  nodes_are = sym (ap₂ (λ k l. take k l) node_count all_nodes ∙ front nodes has.others)

-- ---- a sealed epoch

module _ (c : Contents) (p : Plan) (plan : IsPlanOf c p) (n : ℕ) (v : CoreValue) (has : HasSealed c n v) where
  seal_row : slice_get p.seals.items n ≡ Some has.there.last
  seal_row = seal_at p.seals.items n has.there.last (ap (λ l. slice_get l n) (sym plan.seals) ∙ has.there.seal)

  abbrev counts : Counts
  counts = record { procedures = has.there.procedures.to; calls = has.there.calls.to; turns = has.there.turns.to; replies = has.there.replies.to }

  pub sealed_end : AreAtEnd p.seals.items p.marks n counts
  sealed_end =
      let both = at_seal (slice_get p.seals.items n) p.marks has.there.last counts seal_row
      (record { procedures = has.there.procedures.last_is; calls = has.there.calls.last_is; turns = has.there.turns.last_is; replies = has.there.replies.last_is }) in
      record { sealed = both.0; unsealed = both.1 }

  pub sealed_inside : AreInOrder counts (all_rows p.marks)
  sealed_inside = record {
    procedures = omega (arith, has.there.procedures.inside, plan.marked.procedures);
    calls = omega (arith, has.there.calls.inside, plan.marked.calls);
    turns = omega (arith, has.there.turns.inside, plan.marked.turns);
    replies = omega (arith, has.there.replies.inside, plan.marked.replies);
  }

  abbrev before : Counts
  before = record { procedures = has.there.new_are.from; calls = has.there.calls.from; turns = has.there.turns.from; replies = has.there.replies.from }

  before_is : IsCounted has.there.first before
  before_is = record { procedures = has.there.new_are.first_is; calls = has.there.calls.first_is; turns = has.there.turns.first_is; replies = has.there.replies.first_is }

  none_before : n ≡ 0 → before ≡ no_rows
  none_before is = counted_same has.there.first before no_rows before_is
      (let zeros = has.there.before.none is in
      record { procedures = ap (λ (s : SealRow). s.procedures) zeros; calls = ap (λ (s : SealRow). s.calls) zeros; turns = ap (λ (s : SealRow). s.turns) zeros; replies = ap (λ (s : SealRow). s.replies) zeros })

  seal_before : (k : ℕ) → n ≡ suc k → AreAtEnd p.seals.items p.marks k before
  seal_before k is =
      let at : slice_get p.seals.items k ≡ Some has.there.first = seal_at p.seals.items k has.there.first (ap (λ l. slice_get l k) (sym plan.seals) ∙ has.there.before.before k is) in
      let both = at_seal (slice_get p.seals.items k) p.marks has.there.first before at before_is in
      record { sealed = both.0; unsealed = both.1 }

  pub rows_sealed : RowsAt c p n v
  rows_sealed = record {
    rows = has.rows;
    first = before;
    last = counts;
    beginning = record { none = none_before; before = seal_before };
    end = sealed_end;
    order = record {
      procedures = (let same = pos_same has.there.new_are.to has.there.procedures.to (sym has.there.new_are.last_is ∙ has.there.procedures.last_is) in omega (arith, same, has.there.new_are.order));
      calls = has.there.calls.order;
      turns = has.there.turns.order;
      replies = has.there.replies.order;
    };
    inside = sealed_inside;
    nodes = nodes_are c p plan n has.rows.nodes has.there.nodes;
    count = node_count c p plan n has.rows.nodes has.there.nodes;
    procedures = has.there.procedures.are
        ∙ (let zeros = pos_same has.there.procedures.from 0 (sym has.there.procedures.first_is) in ap (λ k. take (has.there.procedures.to - k) (drop k (c PROCEDURE))) zeros);
    calls = has.there.calls.are;
    turns = has.there.turns.are;
    replies = has.there.replies.are;
    right = has.right;
  }

-- ---- the epoch behind the last seal

rest_between : (rows : List Row) (first last : ℕ) → last ≡ length rows → drop first rows ≡ between first last rows
rest_between rows first last is = sym (take_all (last - first) (drop first rows) (let long = length-drop first rows in omega (arith, long, is)))

-- what the counts at its beginning are: those of the seal before it, which are those of the last seal
pub record OpenAt (c : Contents) (p : Plan) (n : ℕ) (s : Sealed) : Type 0 where
  pub first : Counts
  pub beginning : AreAtBeginning p.seals.items p.marks n first
  pub inside : AreInOrder first (all_rows p.marks)
  pub calls : first.calls ≡ s.calls
  pub turns : first.turns ≡ s.turns
  pub replies : first.replies ≡ s.replies

module _ (c : Contents) (p : Plan) (plan : IsPlanOf c p) where
  pub open_first : (n : ℕ) (s : Sealed) → n ≡ 0 → length (c SEAL) ≡ 0 → IsLastSeal c s → OpenAt c p n s
  open_first n s is none (inl (empty, zeros)) = record {
    first = no_rows;
    beginning = record { none = λ z. refl; before = λ k more. absurd (omega (arith, is, more)) };
    inside = record { procedures = omega arith; calls = omega arith; turns = omega arith; replies = omega arith };
    calls = sym (ap (λ (x : Sealed). x.calls) zeros);
    turns = sym (ap (λ (x : Sealed). x.turns) zeros);
    replies = sym (ap (λ (x : Sealed). x.replies) zeros);
  }
  open_first n s is none (inr (number, seal, last, counted)) = absurd (let l = ap length last.columns_are ∙ length-append last.front (seal_columns seal ∷ []) in omega (arith, l, none))

  pub open_later : (n : ℕ) (u : CoreValue) (s : Sealed) → length (c SEAL) ≡ suc n → HasSealed c n u → IsLastSeal c s → OpenAt c p (suc n) s
  open_later n u s long has (inl (empty, zeros)) = absurd (let l = ap length empty in omega (arith, l, long))
  open_later n u s long has (inr (number, seal, last, counted)) =
      let at : slice_get (c SEAL) n ≡ Some (seal_columns seal) = at_end last.front (c SEAL) (seal_columns seal) n last.columns_are long in
      let both : Some (seal_columns has.there.last) ≡ Some (seal_columns seal) = sym has.there.seal ∙ at in
      let columns : seal_columns has.there.last ≡ seal_columns seal = cc in
      let same : has.there.last ≡ seal = seal_told has.there.last seal columns in
      record {
        first = counts c p plan n u has;
        beginning = record {
          none = λ z. absurd (omega (arith, z));
          before = λ k more. (let here : n ≡ k = omega (arith, more) in subst (λ j. AreAtEnd p.seals.items p.marks j (counts c p plan n u has)) here (sealed_end c p plan n u has));
        };
        inside = sealed_inside c p plan n u has;
        calls = pos_same has.there.calls.to s.calls (sym has.there.calls.last_is ∙ ap (λ (x : SealRow). x.calls) same ∙ counted.0);
        turns = pos_same has.there.turns.to s.turns (sym has.there.turns.last_is ∙ ap (λ (x : SealRow). x.turns) same ∙ counted.1);
        replies = pos_same has.there.replies.to s.replies (sym has.there.replies.last_is ∙ ap (λ (x : SealRow). x.replies) same ∙ counted.2);
      }

  pub rows_open : (n : ℕ) (s : Sealed) (v : CoreValue) (ledger : IsLedgerOf c v) → n ≡ length (c SEAL) → IsLastSeal c s → OpenAt c p n s → All (IsThere n) ledger.rows.nodes → RowsAt c p n v
  rows_open n s v ledger is last at there =
      let behind = ledger.there.behind s last in
      let nodes : HasNodes c n ledger.rows.nodes = record {
        others = [];
        all = ledger.there.nodes ∙ ap (map node_columns) (sym (append-nil ledger.rows.nodes));
        there = there;
        to_come = λ k d less. absurd (omega (arith, less));
      } in
      let long : n ≡ length p.seals.items = is ∙ ap length plan.seals ∙ length-map p.seals.items seal_columns in
      let unsealed = at_none (slice_get p.seals.items n) p.marks (none_at p.seals.items n long) in
      record {
        rows = ledger.rows;
        first = at.first;
        last = all_rows p.marks;
        beginning = at.beginning;
        end = record { sealed = unsealed.0; unsealed = unsealed.1 };
        order = at.inside;
        inside = record { procedures = omega arith; calls = omega arith; turns = omega arith; replies = omega arith };
        nodes = nodes_are c p plan n ledger.rows.nodes nodes;
        count = node_count c p plan n ledger.rows.nodes nodes;
        procedures = sym ledger.there.procedures ∙ rest_between (c PROCEDURE) 0 p.marks.procedures (sym plan.marked.procedures);
        calls = behind.calls ∙ ap (λ k. drop k (c CALL)) (sym at.calls) ∙ rest_between (c CALL) at.first.calls p.marks.calls (sym plan.marked.calls);
        turns = behind.turns ∙ ap (λ k. drop k (c TURN)) (sym at.turns) ∙ rest_between (c TURN) at.first.turns p.marks.turns (sym plan.marked.turns);
        replies = behind.replies ∙ ap (λ k. drop k (c REPLY)) (sym at.replies) ∙ rest_between (c REPLY) at.first.replies p.marks.replies (sym plan.marked.replies);
        right = subst (λ e. AreRowsOf e ledger.rows v) (sym is) ledger.right;
      }
