-- Rows under their numbers.
use Rattle.std.proofs.Common.{◌≡◌, ◌∙◌, ℤ, List, [], ◌∷◌, Bool, true, false, not, filter, length, IsTrue, sym, ap, refl, subst, true≢false, arith, Ordering, Less, Equal, Greater, int_cmp}
use Rattle.std.proofs.lemmas.Bool.Decides.{nat_tests}
use Rattle.std.proofs.lemmas.Map.Lookups.{exact_signed}
use Rattle.std.specs.Ordering.{is_eq}
use Rattle.sqlite_value.specs.declared.value.Value.TheVariants.{Int}
use Rattle.sqlite_value.specs.Order.{Row, value_cmp}
use Rattle.sqlite_value.proofs.OrderLemmas.{value_cmp-Int}
use Rattle.sqlite_trees.specs.Tree.{has_rowid, put_row, rowid}
use Rattle.tl_key_table.specs.declared.row.KeyRow.{KeyRow}
use Rattle.tl_key_table.specs.KeyTable.{HasUnder, key_columns}

-- no row has the number
abbrev pub Lacks : List Row → ℤ → Type 0
Lacks rows n = filter (has_rowid n) rows ≡ []

pub not_found : (found : Bool) → IsTrue (not found) → found ≡ false
not_found true is = absurd (true≢false (sym is))
not_found false is = refl

-- the number of the first row is another, if no row has it
pub first_lacks : (n : ℤ) (r : Row) (rows : List Row) → Lacks (r ∷ rows) n → (has_rowid n r ≡ false) × Lacks rows n
first_lacks n r rows lacks = by_case (has_rowid n r) refl
  where
    by_case : (b : Bool) → has_rowid n r ≡ b → (has_rowid n r ≡ false) × Lacks rows n
    by_case true is = absurd (let e : r ∷ filter (has_rowid n) rows ≡ [] = (rw is at lacks) in let l = ap length e in omega arith)
    by_case false is = (is, (rw is at lacks))

int_same : (n : ℤ) → int_cmp n n ≡ Equal
int_same n = grind (arith, nat_tests)

itself : (n : ℤ) → value_cmp (Int n) (Int n) ≡ Equal
itself n = value_cmp-Int n n ∙ int_same n

is_equal : (o : Ordering) → is_eq o ≡ true → o ≡ Equal
is_equal Less is = absurd (true≢false (sym is))
is_equal Equal is = refl
is_equal Greater is = absurd (true≢false (sym is))

pub same_number : (n m : ℤ) (cs : Row) → has_rowid m (Int n ∷ cs) ≡ true → n ≡ m
same_number n m cs is = exact_signed n m (sym (value_cmp-Int n m) ∙ is_equal (value_cmp (Int n) (Int m)) is)

skip : (m : ℤ) (r : Row) (rows : List Row) → has_rowid m r ≡ false → filter (has_rowid m) (r ∷ rows) ≡ filter (has_rowid m) rows
skip m r rows is = rw is refl

kept : (m : ℤ) (r : Row) (rows : List Row) → has_rowid m r ≡ true → filter (has_rowid m) (r ∷ rows) ≡ r ∷ filter (has_rowid m) rows
kept m r rows is = rw is refl

at_less : (n : ℤ) (cs r : Row) (rows : List Row) → value_cmp (rowid r) (Int n) ≡ Less → put_row (Int n ∷ cs) (r ∷ rows) ≡ r ∷ put_row (Int n ∷ cs) rows
at_less n cs r rows is = rw is refl

at_greater : (n : ℤ) (cs r : Row) (rows : List Row) → value_cmp (rowid r) (Int n) ≡ Greater → put_row (Int n ∷ cs) (r ∷ rows) ≡ (Int n ∷ cs) ∷ r ∷ rows
at_greater n cs r rows is = rw is refl

-- the row that is put is there under its number, where none was
put_first : (n : ℤ) (cs : Row) (r : Row) (rows : List Row) → Lacks (r ∷ rows) n → filter (has_rowid n) (put_row (Int n ∷ cs) rows) ≡ (Int n ∷ cs) ∷ []
    → (o : Ordering) → value_cmp (rowid r) (Int n) ≡ o → filter (has_rowid n) (put_row (Int n ∷ cs) (r ∷ rows)) ≡ (Int n ∷ cs) ∷ []
put_first n cs r rows lacks rest Less is =
    ap (filter (has_rowid n)) (at_less n cs r rows is) ∙ skip n r (put_row (Int n ∷ cs) rows) (first_lacks n r rows lacks).0 ∙ rest
put_first n cs r rows lacks rest Equal is = absurd (true≢false (sym (ap is_eq is) ∙ (first_lacks n r rows lacks).0))
put_first n cs r rows lacks rest Greater is =
    ap (filter (has_rowid n)) (at_greater n cs r rows is) ∙ kept n (Int n ∷ cs) (r ∷ rows) (ap is_eq (itself n)) ∙ ap (λ l. (Int n ∷ cs) ∷ l) lacks

pub put_here : (n : ℤ) (cs : Row) (rows : List Row) → Lacks rows n → filter (has_rowid n) (put_row (Int n ∷ cs) rows) ≡ (Int n ∷ cs) ∷ []
put_here n cs [] lacks = kept n (Int n ∷ cs) [] (ap is_eq (itself n))
put_here n cs (r ∷ rows) lacks = put_first n cs r rows lacks (put_here n cs rows (first_lacks n r rows lacks).1) (value_cmp (rowid r) (Int n)) refl

-- what is there under another number stays
keep_first : (m : ℤ) (r : Row) (new rows : List Row) → filter (has_rowid m) new ≡ filter (has_rowid m) rows → (b : Bool) → has_rowid m r ≡ b
    → filter (has_rowid m) (r ∷ new) ≡ filter (has_rowid m) (r ∷ rows)
keep_first m r new rows rest true is = kept m r new is ∙ ap (λ l. r ∷ l) rest ∙ sym (kept m r rows is)
keep_first m r new rows rest false is = skip m r new is ∙ rest ∙ sym (skip m r rows is)

put_other : (n m : ℤ) (cs : Row) (r : Row) (rows : List Row) → has_rowid m (Int n ∷ cs) ≡ false → Lacks (r ∷ rows) n
    → filter (has_rowid m) (r ∷ put_row (Int n ∷ cs) rows) ≡ filter (has_rowid m) (r ∷ rows)
    → (o : Ordering) → value_cmp (rowid r) (Int n) ≡ o → filter (has_rowid m) (put_row (Int n ∷ cs) (r ∷ rows)) ≡ filter (has_rowid m) (r ∷ rows)
put_other n m cs r rows other lacks rest Less is = ap (filter (has_rowid m)) (at_less n cs r rows is) ∙ rest
put_other n m cs r rows other lacks rest Equal is = absurd (true≢false (sym (ap is_eq is) ∙ (first_lacks n r rows lacks).0))
put_other n m cs r rows other lacks rest Greater is = ap (filter (has_rowid m)) (at_greater n cs r rows is) ∙ skip m (Int n ∷ cs) (r ∷ rows) other

pub put_elsewhere : (n m : ℤ) (cs : Row) (rows : List Row) → has_rowid m (Int n ∷ cs) ≡ false → Lacks rows n
    → filter (has_rowid m) (put_row (Int n ∷ cs) rows) ≡ filter (has_rowid m) rows
put_elsewhere n m cs [] other lacks = skip m (Int n ∷ cs) [] other
put_elsewhere n m cs (r ∷ rows) other lacks =
    let rest = put_elsewhere n m cs rows other (first_lacks n r rows lacks).1 in
    put_other n m cs r rows other lacks (keep_first m r (put_row (Int n ∷ cs) rows) rows rest (has_rowid m r) refl) (value_cmp (rowid r) (Int n)) refl

lacks_not : (rows : List Row) (n : ℤ) (x : Row) (xs : List Row) → Lacks rows n → filter (has_rowid n) rows ≡ x ∷ xs → ⊥
lacks_not rows n x xs lacks has = let e : [] ≡ x ∷ xs = sym lacks ∙ has in let l = ap length e in omega arith

-- each row that was there still is
pub stays : (n : ℤ) (cs : Row) (rows : List Row) (m : ℤ) (k : KeyRow) → Lacks rows n → HasUnder rows m k → HasUnder (put_row (Int n ∷ cs) rows) m k
stays n cs rows m k lacks has = by_case (has_rowid m (Int n ∷ cs)) refl
  where
    by_case : (b : Bool) → has_rowid m (Int n ∷ cs) ≡ b → HasUnder (put_row (Int n ∷ cs) rows) m k
    by_case true is = absurd (lacks_not rows n _ _ lacks (subst (λ (i : ℤ). filter (has_rowid i) rows ≡ (Int m ∷ key_columns k) ∷ []) (sym (same_number n m cs is)) has))
    by_case false is = put_elsewhere n m cs rows is lacks ∙ has

-- no key has a row where none is
pub none_has : (rows : List Row) (n : ℤ) (k : KeyRow) → Lacks rows n → HasUnder rows n k → ⊥
none_has rows n k lacks has = lacks_not rows n _ _ lacks has
