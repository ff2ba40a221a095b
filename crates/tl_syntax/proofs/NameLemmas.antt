-- The names of a text, as an `IndexSet` stores them.
use denote.Bor.{Bor}
use Rattle.std.proofs.Common.{◌≡◌, ◌≢◌, ℕ, zero, suc, Bool, true, false, List, [], ◌∷◌, ◌++◌, Some, slice_get, length, ◌≤◌, refl, sym, ap, subst, ◌∙◌, append-nil, nat_eq, if◌then◌else◌, ◌||◌}
use Rattle.std.specs.List.{list_any, AllByRecursion, IsDistinct}
use Rattle.std.specs.Cmp.Lexicographic.{pointwise}
use Rattle.std.specs.Cmp.Lexicographic.{same_text, other_text}
use Rattle.indexmap.specs.IndexSet.{insert_key}
use Rattle.tl_syntax.specs.declared.token.Token.{Token}
use Rattle.tl_syntax.specs.declared.token.TokenKind.TheVariants as K
use Rattle.tl_syntax.specs.declared.lexer.Piece.TheVariants as P
use Rattle.tl_syntax.specs.declared.words.TheConstants.{MAX_NAME}
use Rattle.tl_syntax.specs.Tokens as T
use Rattle.tl_syntax.specs.Tokens.{spellings, Extends, AreDistinct, Adds, IsFree}
use Rattle.tl_syntax.proofs.TokenLemmas.{extends_more}

abbrev pub same_name : Bor (List ℕ) → Bor (List ℕ) → Bool
same_name x y = pointwise nat_eq x.now y.now

pub spellings_pushed : (names : List (Bor (List ℕ))) (name : Bor (List ℕ)) → spellings (names ++ name ∷ []) ≡ spellings names ++ name.now ∷ []
spellings_pushed [] name = refl
spellings_pushed (n ∷ names) name = ap (λ l. n.now ∷ l) (spellings_pushed names name)

pub extends_same : {a b : List (List ℕ)} → b ≡ a → Extends a b
extends_same {a} e = record { more = []; is = e ∙ sym (append-nil a) }

pub extends_inserted : (keys keys' : List (Bor (List ℕ))) (name : Bor (List ℕ)) → keys' ≡ insert_key same_name keys name →
    Extends (spellings keys) (spellings keys')
extends_inserted keys keys' name e = by (list_any (same_name name) keys) e
  where
    by : (there : Bool) → keys' ≡ (if there then keys else keys ++ name ∷ []) → Extends (spellings keys) (spellings keys')
    by true e = extends_same (ap spellings e)
    by false e = record { more = name.now ∷ []; is = ap spellings e ∙ spellings_pushed keys name }

get_spelling : (names : List (Bor (List ℕ))) (i : ℕ) (name : Bor (List ℕ)) → slice_get names i ≡ Some name → slice_get (spellings names) i ≡ Some name.now
get_spelling [] i name e = cc
get_spelling (n ∷ names) zero name e = by n name e
  where
    by : (a b : Bor (List ℕ)) → Some a ≡ Some b → Some a.now ≡ Some b.now
    by a b e = cc
get_spelling (n ∷ names) (suc i) name e = get_spelling names i name e

-- the name at its symbol
pub symbol_is : (names : List (Bor (List ℕ))) (i : ℕ) (name : Bor (List ℕ)) (word : List ℕ) → slice_get names i ≡ Some name →
    pointwise nat_eq word name.now ≡ true → slice_get (spellings names) i ≡ Some word
symbol_is names i name word e same = get_spelling names i name e ∙ ap Some (sym (same_text word name.now (sym same)))

any_spelling : (names : List (Bor (List ℕ))) (name : Bor (List ℕ)) → list_any (same_name name) names ≡ list_any (pointwise nat_eq name.now) (spellings names)
any_spelling [] name = refl
any_spelling (n ∷ names) name = ap (λ b. pointwise nat_eq name.now n.now || b) (any_spelling names name)

-- a name that isn't in the set is appended
pub inserted_last : (keys keys' : List (Bor (List ℕ))) (name : Bor (List ℕ)) (word : List ℕ) (names : List (List ℕ)) → spellings keys ≡ names →
    name.now ≡ word → list_any (pointwise nat_eq word) names ≡ false → keys' ≡ insert_key same_name keys name → spellings keys' ≡ names ++ word ∷ []
inserted_last keys keys' name word names k w new e =
    let absent : list_any (same_name name) keys ≡ false =
    any_spelling keys name ∙ ap (λ l. list_any (pointwise nat_eq name.now) l) k ∙ ap (λ l. list_any (pointwise nat_eq l) names) w ∙ new in
    let pushed : keys' ≡ keys ++ name ∷ [] = e ∙ ap (λ there. if there then keys else keys ++ name ∷ []) absent in
    ap spellings pushed ∙ spellings_pushed keys name ∙ ap (λ l. l ++ name.now ∷ []) k ∙ ap (λ l. names ++ l ∷ []) w

-- a name's symbol is its index among the names
pub named : (keys keys' keys'' : List (Bor (List ℕ))) (word : Bor (List ℕ)) (index offset : ℕ) (read read' : List Token) →
    keys' ≡ insert_key same_name keys word → ((k : Bor (List ℕ)) × (slice_get keys' index ≡ Some k) × (same_name word k ≡ true)) → keys'' ≡ keys' →
    IsFree word.now → length word.now ≤ MAX_NAME → read' ≡ read ++ (record { kind = K.Name (record { 0 = index }); offset = offset }) ∷ [] →
    Adds word.now offset (spellings keys) (spellings keys'') read read' P.Word
named keys keys' keys'' word index offset read read' e stored same free fits pushed =
    T.one (extends_more (extends_inserted keys keys' word e) (extends_same (ap spellings same)))
    (T.name free fits (ap (λ l. slice_get (spellings l) index) same ∙ symbol_is keys' index stored.0 word.now stored.1 stored.2)) pushed

same_some : {A : Type 0} (a b : A) → Some a ≡ Some b → a ≡ b
same_some a b e = cc

-- a name that differs from each of the others isn't one of them
apart : (name : Bor (List ℕ)) (names : List (Bor (List ℕ))) (i : ℕ) (word : List ℕ) → AllByRecursion (λ n. same_name name n ≡ false) names →
    slice_get (spellings names) i ≡ Some word → name.now ≢ word
apart name [] i word all e = λ same. cc
apart name (n ∷ names) zero word all e = λ same. other_text name.now n.now (sym all.0) (same ∙ sym (same_some n.now word e))
apart name (n ∷ names) (suc i) word all e = apart name names i word all.1 e

-- the names in an `IndexSet` are distinct
pub distinct_spellings : (names : List (Bor (List ℕ))) → IsDistinct same_name names → AreDistinct (spellings names)
unfolding IsDistinct
distinct_spellings [] d i j word e f = cc
distinct_spellings (n ∷ names) d zero zero word e f = refl
distinct_spellings (n ∷ names) d zero (suc j) word e f = absurd (apart n names j word d.0 f (same_some n.now word e))
distinct_spellings (n ∷ names) d (suc i) zero word e f = absurd (apart n names i word d.0 e (same_some n.now word f))
distinct_spellings (n ∷ names) d (suc i) (suc j) word e f = ap suc (distinct_spellings names d.1 i j word e f)

pub same_distinct : (old new : List (Bor (List ℕ))) → new ≡ old → AreDistinct (spellings old) → AreDistinct (spellings new)
same_distinct old new e d = subst (λ names. AreDistinct (spellings names)) (sym e) d
