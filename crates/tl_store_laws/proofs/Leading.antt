-- Changes that lead from records to others lead from their rows to those of the others.
use Rattle.std.proofs.Common.{◌≡◌, ◌≢◌, ℕ, zero, suc, ◌+◌, ◌<◌, ◌⊎◌, ℤ, List, [], ◌∷◌, ◌++◌, length, map, set, get_or, refl, sym, ap, ◌∙◌, subst, inl, inr, arith, Option, Some, None}
use Rattle.std.specs.Prelude.{All, Contains, slice_set}
use Rattle.std.proofs.lemmas.Bool.{cases_eq}
use Rattle.std.proofs.lemmas.List.{length-map, get_or-map, length-set, get_or-set_same, get_or-set_other}
use Rattle.std.proofs.lemmas.List.Elements.{All-head, All-tail}
use Rattle.sqlite_value.specs.Order.{Row}
use Rattle.tl_tree.specs.Records.{Record, Records, record_at}
use Rattle.tl_ledger.specs.declared.rows.ChangedRecord.{ChangedRecord}
use Rattle.tl_ledger.specs.News.{fields_columns, record_columns, with_changes}
use Rattle.tl_rows.specs.Changes.{change_to, Stays, IsChange, Leads}

abbrev pub columns_at : Records → ℕ → Row
columns_at now x = fields_columns (record_at now x)

-- some of the rest is this, unless it is the first
in_rest : (c : ChangedRecord) (cs : List ChangedRecord) (x : ChangedRecord) → Contains (c ∷ cs) x → (c ≡ x) ⊎ Contains cs x
in_rest c cs x (zero, less, is) = inl is
in_rest c cs x (suc k, less, is) = inr (k, omega arith, is)

pub changes_long : (rows : List Row) (changes : List ChangedRecord) → length (with_changes rows changes) ≡ length rows
changes_long rows [] = refl
changes_long rows (c ∷ cs) = changes_long (slice_set rows c.node (record_columns c.row)) cs ∙ length-set rows c.node (record_columns c.row)

changed_at : (now : Records) (x : ℕ) (d : Row) (changes : List ChangedRecord) (rows : List Row) → All (IsChange now) changes → x < length rows
    → (get_or rows x d ≡ columns_at now x) ⊎ Contains changes (change_to now x) → get_or (with_changes rows changes) x d ≡ columns_at now x
changed_at now x d [] rows each inside (inl here) = here
changed_at now x d [] rows each inside (inr (k, less, is)) = absurd (omega arith)
changed_at now x d (c ∷ cs) rows each inside so_far =
    let first = All-head (IsChange now) c cs each in
    let long : length (slice_set rows c.node (record_columns c.row)) ≡ length rows = length-set rows c.node (record_columns c.row) in
    let rest = All-tail (IsChange now) c cs each in
    changed_at now x d cs (slice_set rows c.node (record_columns c.row)) rest (omega arith) (elim (cases_eq c.node x) [
      | inl same ↦
          let put : get_or (slice_set rows c.node (record_columns c.row)) x d ≡ record_columns c.row =
          ap (λ n. get_or (slice_set rows n (record_columns c.row)) x d) same ∙ get_or-set_same rows x (record_columns c.row) d inside in
          inl (put ∙ ap (λ (z : ChangedRecord). record_columns z.row) first.same ∙ ap (columns_at now) same)
      | inr other ↦
          let kept : get_or (slice_set rows c.node (record_columns c.row)) x d ≡ get_or rows x d = get_or-set_other rows c.node x (record_columns c.row) d (λ same. other (sym same)) in
          elim so_far [
            | inl here ↦ inl (kept ∙ here)
            | inr found ↦ elim (in_rest c cs (change_to now x) found) [
              | inl is ↦ absurd (other (ap (λ (z : ChangedRecord). z.node) is))
              | inr later ↦ inr later
            ]
          ]
    ])

same_items : {X : Type 0} (xs ys : List X) → length xs ≡ length ys → ((k : ℕ) (d : X) → k < length xs → get_or xs k d ≡ get_or ys k d) → xs ≡ ys
same_items [] [] long same = refl
same_items [] (y ∷ ys) long same = absurd (omega arith)
same_items (x ∷ xs) [] long same = absurd (omega arith)
same_items (x ∷ xs) (y ∷ ys) long same =
    let head : x ≡ y = same 0 x (omega arith) in
    let tail : xs ≡ ys = same_items xs ys (omega arith) (λ k d less. same (suc k) d (omega arith)) in
    ap (λ z. z ∷ xs) head ∙ ap (λ l. y ∷ l) tail

-- where there are as many records as before
pub changes_lead : (before now : Records) (changes : List ChangedRecord) → length before ≡ length now → Leads before now changes → with_changes (map fields_columns before) changes ≡ map fields_columns now
changes_lead before now changes many leads =
    let rows = length-map before fields_columns in
    let all = changes_long (map fields_columns before) changes in
    let there = length-map now fields_columns in
    same_items (with_changes (map fields_columns before) changes) (map fields_columns now) (omega arith)
    (λ k d less. (let inside : k < length now = omega arith in
    changed_at now k d changes (map fields_columns before) leads.each (omega arith) (elim (leads.others k inside) [
      | inl stays ↦ inl (get_or-map fields_columns before k [] d stays.known ∙ ap fields_columns stays.same)
      | inr found ↦ inr found
    ])
    ∙ sym (get_or-map fields_columns now k [] d inside)))
