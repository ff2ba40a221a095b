-- The epochs of a store that has a history.
use Rattle.std.proofs.Common.{◌≡◌, ℕ, zero, suc, ◌+◌, ◌-◌, ◌<◌, ◌≤◌, pos, List, [], ◌∷◌, ◌++◌, length, map, take, replicate, refl, sym, ap, ◌∙◌, subst, inl, inr, arith, Some, None, slice_get}
use Rattle.std.specs.Prelude.{All}
use Rattle.std.proofs.lemmas.Bool.{cases_lt}
use Rattle.std.proofs.lemmas.List.{length-append, length-map, length-replicate, get_or-map}
use Rattle.sqlite_value.specs.Order.{Row}
use Rattle.tl_width.specs.Fields.{field_count}
use Rattle.tl_tree.specs.Records.{Records}
use Rattle.tl_tree.specs.Trees.{TreeValue}
use Rattle.tl_tree_locking.specs.History.{AllDone, records_now}
use Rattle.tl_procedures.specs.Names.{KeepsNames, latest}
use Rattle.tl_core.specs.Cores.{CoreValue}
use Rattle.tl_core.specs.Reached.{IsReached}
use Rattle.tl_trail.specs.Trails.{TrailValue}
use Rattle.tl_record.specs.Recording.{trail_value}
use Rattle.tl_audit.specs.Chains.{zero_record}
use Rattle.tl_ledger.specs.declared.rows.RecordRow.{RecordRow}
use Rattle.tl_ledger.specs.declared.rows.TheConstants.{FIELDS}
use Rattle.tl_ledger.specs.declared.schema.TheConstants.{PROCEDURE}
use Rattle.tl_ledger.specs.Contents.{Contents}
use Rattle.tl_ledger.specs.News.{fields_columns, record_columns, node_columns, seal_columns}
use Rattle.tl_rows.specs.Rows.{parent_in, fields_in}
use Rattle.tl_store_laws.proofs.Readable.{readable}
use Rattle.tl_store_laws.proofs.Seal.{record_row}
use Rattle.tl_store_history.specs.Sealed.{HasSealed}
use Rattle.tl_store_history.specs.History.{PastEpoch, with_zeros, AreInLine, left_by, parents_after, records_after, HasHistory, IsOfSize, core_at}
use Rattle.tl_store_history.proofs.Starts.{records_told}
use Rattle.tl_store_history.proofs.Whole.{epoch_at}
use Rattle.tl_export.specs.declared.counts.Counts.{Counts}
use Rattle.tl_export.specs.declared.plan.Plan.{Plan}
use Rattle.tl_export.specs.Plans.{IsPlanOf, CanBeExported}
use Rattle.tl_export.specs.Epochs.{nodes_at, with_new, between, IsCoreOf, IsEndOf}
use Rattle.tl_export.proofs.NamesLemmas.{rows_keep}
use Rattle.tl_export.proofs.RowsLemmas.{RowsAt, OpenAt, ends_same, rows_sealed, open_first, open_later, rows_open}
use Rattle.tl_export.proofs.CoreLemmas.{are_of_core}

-- ---- epochs by number

pub core_there : (es : List PastEpoch) (v : CoreValue) (n : ℕ) (e : PastEpoch) → slice_get es n ≡ Some e → core_at es v n ≡ e.core
core_there [] v n e at = absurd cc
core_there (f ∷ es) v zero e at = let same : f ≡ e = cc in ap (λ (x : PastEpoch). x.core) same
core_there (f ∷ es) v (suc n) e at = core_there es v n e at

pub core_behind : (es : List PastEpoch) (v : CoreValue) (n : ℕ) → n ≡ length es → core_at es v n ≡ v
core_behind [] v n is = refl
core_behind (e ∷ es) v zero is = absurd (omega (arith, is))
core_behind (e ∷ es) v (suc n) is = core_behind es v n (omega (arith, is))

-- the core began with this tree and these records, and with nodes behind
abbrev From : List ℕ → Records → CoreValue → Type 0
From parents records v = (added : List ℕ) × (v.parents ≡ parents ++ added) × (v.opening ≡ with_zeros (length added) records)

first_from : (parents : List ℕ) (records : Records) (es : List PastEpoch) (added : List ℕ) (v : CoreValue) → AreInLine parents records es → v.parents ≡ parents_after parents es ++ added
    → v.opening ≡ with_zeros (length added) (records_after records es) → From parents records (core_at es v 0)
first_from parents records [] added v line tree opening = (added, tree, opening)
first_from parents records (e ∷ es) added v line tree opening = (e.added, line.0.parents_are, line.0.opening)

next_from : (parents : List ℕ) (records : Records) (es : List PastEpoch) (added : List ℕ) (v : CoreValue) → AreInLine parents records es → v.parents ≡ parents_after parents es ++ added
    → v.opening ≡ with_zeros (length added) (records_after records es) → (k : ℕ) (e : PastEpoch) → slice_get es k ≡ Some e → From e.core.parents (left_by e) (core_at es v (suc k))
next_from parents records [] added v line tree opening k e at = absurd cc
next_from parents records (f ∷ es) added v line tree opening zero e at =
    let same : f ≡ e = cc in
    subst (λ (x : PastEpoch). From x.core.parents (left_by x) (core_at es v 0)) same (first_from f.core.parents (left_by f) es added v line.1 tree opening)
next_from parents records (f ∷ es) added v line tree opening (suc k) e at = next_from f.core.parents (left_by f) es added v line.1 tree opening k e at

ended : (parents : List ℕ) (records : Records) (es : List PastEpoch) → AreInLine parents records es → (k : ℕ) (e : PastEpoch) → slice_get es k ≡ Some e → IsReached e.core × AllDone e.core.past
ended parents records [] line k e at = absurd cc
ended parents records (f ∷ es) line zero e at = let same : f ≡ e = cc in subst (λ (x : PastEpoch). IsReached x.core × AllDone x.core.past) same (line.0.reached, line.0.done)
ended parents records (f ∷ es) line (suc k) e at = ended f.core.parents (left_by f) es line.1 k e at

-- ---- what it begins with

begins : (v : CoreValue) (base : Records) (added : List ℕ) (nodes : ℕ) → v.opening ≡ with_zeros (length added) base → length v.opening ≡ nodes → v.opening ≡ with_new base nodes
begins v base added nodes is long =
    let all : length v.opening ≡ length base + length added = ap length is ∙ length-append base (replicate (length added) zero_record) ∙ ap (λ k. length base + k) (length-replicate (length added) zero_record) in
    let count : length added ≡ nodes - length base = omega (arith, all, long) in
    is ∙ ap (λ k. base ++ replicate k zero_record) count

take_more : {X : Type 0} (n m : ℕ) (xs : List X) → n ≤ m → (more : List X) × (take m xs ≡ take n xs ++ more)
take_more zero m xs few = (take m xs, refl)
take_more (suc n) zero xs few = absurd (omega (arith, few))
take_more (suc n) (suc m) [] few = ([], refl)
take_more (suc n) (suc m) (x ∷ xs) few = let rest = take_more n m xs (omega (arith, few)) in (rest.0, ap (λ l. x ∷ l) rest.1)

from_first : (k : ℕ) (xs : List Row) → between 0 k xs ≡ take k xs
from_first k xs = (let same : k - 0 ≡ k = omega arith in ap (λ m. take m xs) same)

keeps : (c : Contents) (p : Plan) (k : ℕ) (u v : CoreValue) → RowsAt c p k u → RowsAt c p (suc k) v → KeepsNames u.procedures v.procedures
keeps c p k u v old new =
    let same = ends_same p.seals.items p.marks k old.last new.first old.end (new.beginning.before k refl) in
    let few : old.last.procedures ≤ new.last.procedures = (let l = ap (λ (x : Counts). x.procedures) same in let o = new.order.procedures in omega (arith, l, o)) in
    let more = take_more old.last.procedures new.last.procedures (c PROCEDURE) few in
    let kept = rows_keep old.rows.procedures new.rows.procedures more.0 old.right.all new.right.all (new.procedures ∙ from_first new.last.procedures (c PROCEDURE) ∙ more.1 ∙ ap (λ l. l ++ more.0) (sym (old.procedures ∙ from_first old.last.procedures (c PROCEDURE)))) old.right.procedures new.right.procedures in
    subst (λ ps. KeepsNames ps v.procedures) (sym old.right.latest_are) (subst (KeepsNames (latest [] old.right.all)) (sym new.right.latest_are) kept)

rows_columns : (records : Records) → map record_columns (map record_row records) ≡ map fields_columns records
rows_columns [] = refl
rows_columns (r ∷ records) = ap (λ l. fields_columns r ∷ l) (rows_columns records)

rows_fields : (records : Records) → map fields_in (map record_row records) ≡ records
rows_fields [] = refl
rows_fields (r ∷ records) = ap (λ l. r ∷ l) (rows_fields records)

-- ---- the whole store

module _ (c : Contents) (p : Plan) (t : TreeValue) (es : List PastEpoch) (v : CoreValue) (plan : IsPlanOf c p) (h : HasHistory c t es v) (reached : IsReached v) where
  open_at : (n : ℕ) → n ≡ length es → OpenAt c p n h.ledger.there.last.0
  open_at zero is = open_first c p plan 0 h.ledger.there.last.0 refl (h.history.many ∙ sym is) h.ledger.there.last.1
  open_at (suc k) is =
      let e = epoch_at es k (omega (arith, is)) in
      open_later c p plan k e.0.core h.ledger.there.last.0 (h.history.many ∙ sym is) (h.history.each k e.0 e.1) h.ledger.there.last.1

  rows_at : (n : ℕ) → n ≤ length es → RowsAt c p n (core_at es v n)
  rows_at n few = elim (cases_lt n (length es)) [
    | inl less ↦
        let e = epoch_at es n less in
        subst (RowsAt c p n) (sym (core_there es v n e.0 e.1)) (rows_sealed c p plan n e.0.core (h.history.each n e.0 e.1))
    | inr most ↦
        let is : n ≡ length es = omega (arith, few, most) in
        subst (RowsAt c p n) (sym (core_behind es v n is))
        (rows_open c p plan n h.ledger.there.last.0 v h.ledger (is ∙ sym h.history.many) h.ledger.there.last.1 (open_at n is) (subst (λ k. All (Rattle.tl_store_history.specs.Sealed.IsThere k) h.ledger.rows.nodes) (sym is) h.nodes))
  ]

  reached_at : (n : ℕ) → n ≤ length es → IsReached (core_at es v n)
  reached_at n few = elim (cases_lt n (length es)) [
    | inl less ↦ let e = epoch_at es n less in subst IsReached (sym (core_there es v n e.0 e.1)) (ended t.parents t.records es h.history.line n e.0 e.1).0
    | inr most ↦ subst IsReached (sym (core_behind es v n (omega (arith, few, most)))) reached
  ]

  -- a sealed epoch is over
  pub done_at : (n : ℕ) → n < length es → AllDone (core_at es v n).past
  done_at n less = let e = epoch_at es n less in subst (λ (x : CoreValue). AllDone x.past) (sym (core_there es v n e.0 e.1)) (ended t.parents t.records es h.history.line n e.0 e.1).1

  as_long : (n : ℕ) → n ≤ length es → length (core_at es v n).opening ≡ nodes_at n p.nodes.items
  as_long n few =
      let at = rows_at n few in
      let nodes : length at.rows.nodes ≡ length (core_at es v n).parents = sym (length-map at.rows.nodes parent_in) ∙ ap length at.right.parents ∙ length-map (core_at es v n).parents pos in
      (reached_at n few).sound.size ∙ sym nodes ∙ sym at.count

  opening_is : map fields_in p.opening.items ≡ t.records
  opening_is = records_told p.opening.items (map record_row t.records) (sym plan.opening ∙ h.history.opening ∙ sym (rows_columns t.records)) ∙ rows_fields t.records

  pub first_core : IsCoreOf c p 0 None (core_at es v 0)
  first_core =
      let few : 0 ≤ length es = omega arith in
      let at = rows_at 0 few in
      let from = first_from t.parents t.records es h.added v h.history.line h.goes_on.parents h.goes_on.opening in
      record {
        reached = reached_at 0 few;
        counts = record { first = at.first; last = at.last; beginning = at.beginning; end = at.end; order = at.order; inside = at.inside };
        begins = begins (core_at es v 0) t.records from.0 (nodes_at 0 p.nodes.items) from.2 (as_long 0 few) ∙ ap (λ l. with_new l (nodes_at 0 p.nodes.items)) (sym opening_is);
        takes_over = tt;
        rows = λ s read records. are_of_core c p 0 (core_at es v 0) (reached_at 0 few) at s read records;
      }

  pub next_core : (k : ℕ) → k < length es → IsCoreOf c p (suc k) (Some (trail_value (core_at es v k))) (core_at es v (suc k))
  next_core k less =
      let few : suc k ≤ length es = omega (arith, less) in
      let at = rows_at (suc k) few in
      let e = epoch_at es k less in
      let here : core_at es v k ≡ e.0.core = core_there es v k e.0 e.1 in
      let from = subst (λ (x : CoreValue). From x.parents (records_now x.past x.opening) (core_at es v (suc k))) (sym here)
      (next_from t.parents t.records es h.added v h.history.line h.goes_on.parents h.goes_on.opening k e.0 e.1) in
      record {
        reached = reached_at (suc k) few;
        counts = record { first = at.first; last = at.last; beginning = at.beginning; end = at.end; order = at.order; inside = at.inside };
        begins = begins (core_at es v (suc k)) (records_now (core_at es v k).past (core_at es v k).opening) from.0 (nodes_at (suc k) p.nodes.items) from.2 (as_long (suc k) few);
        takes_over = record { added = from.0; parents = from.1; opening = from.2; procedures = keeps c p k (core_at es v k) (core_at es v (suc k)) (rows_at k (omega (arith, less))) at };
        rows = λ s read records. are_of_core c p (suc k) (core_at es v (suc k)) (reached_at (suc k) few) at s read records;
      }

  one_more : (k : ℕ) → suc k ≡ k + 1
  one_more k = omega arith

  -- the core of the epoch behind one whose trail was handed over
  pub core_after : (k : ℕ) (last : TrailValue) → k < length p.seals.items → IsEndOf (core_at es v k) last → IsCoreOf c p (k + 1) (Some last) (core_at es v (k + 1))
  core_after k last inside ends =
      let long : length p.seals.items ≡ length es = sym (ap length plan.seals ∙ length-map p.seals.items seal_columns) ∙ h.history.many in
      let less : k < length es = omega (arith, inside, long) in
      subst (λ n. IsCoreOf c p n (Some last) (core_at es v n)) (one_more k)
      (subst (λ (u : TrailValue). IsCoreOf c p (suc k) (Some u) (core_at es v (suc k))) (sym (ends.same (done_at k less))) (next_core k less))

  -- ---- what is compared at the end

  pub all_nodes : nodes_at (length p.seals.items) p.nodes.items ≡ length p.nodes.items
  all_nodes =
      let long : length p.seals.items ≡ length es = sym (ap length plan.seals ∙ length-map p.seals.items seal_columns) ∙ h.history.many in
      let at = rows_at (length p.seals.items) (omega (arith, long)) in
      let last : core_at es v (length p.seals.items) ≡ v = core_behind es v (length p.seals.items) long in
      let nodes : length at.rows.nodes ≡ length v.parents = sym (length-map at.rows.nodes parent_in) ∙ ap length at.right.parents ∙ length-map (core_at es v (length p.seals.items)).parents pos ∙ ap (λ (x : CoreValue). length x.parents) last in
      let all : length h.ledger.rows.nodes ≡ length v.parents = sym (length-map h.ledger.rows.nodes parent_in) ∙ ap length h.ledger.right.parents ∙ length-map v.parents pos in
      let rows : length p.nodes.items ≡ length h.ledger.rows.nodes = sym (length-map p.nodes.items node_columns) ∙ ap length (sym plan.nodes ∙ h.ledger.there.nodes) ∙ length-map h.ledger.rows.nodes node_columns in
      at.count ∙ nodes ∙ sym all ∙ sym rows

  pub records_are : v.opening ≡ map fields_in p.records.items
  records_are = sym h.ledger.right.records ∙ records_told h.ledger.rows.records p.records.items (sym h.ledger.there.records ∙ plan.records)

-- ---- it can be read

wide_rows : (records : Records) → All (λ fields. length fields ≡ field_count) records → All (λ (r : RecordRow). length r.fields ≡ FIELDS) (map record_row records)
wide_rows records wide = λ k d less.
    let inside : k < length records = (let l = length-map records record_row in omega (arith, less, l)) in
    ap (λ (r : RecordRow). length r.fields) (get_or-map record_row records k d.fields d inside) ∙ wide k d.fields inside

pub exportable : (c : Contents) (t : TreeValue) (es : List PastEpoch) (v : CoreValue) → HasHistory c t es v → IsReached v → IsOfSize c t v → CanBeExported c
exportable c t es v h reached size = record {
  readable = readable c v h.ledger reached size.wide size.few;
  entries = h.entries;
  opening = map record_row t.records;
  wide = wide_rows t.records size.first_wide;
  opening_are = h.history.opening ∙ sym (rows_columns t.records);
}
