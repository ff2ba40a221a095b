-- Tokens denote only one list of names.
use Rattle.std.proofs.Common.{◌≡◌, ℕ, List, [], ◌∷◌, ◌++◌, ap, ◌∙◌}
use Rattle.tl_syntax.specs.declared.token.Token.{Token}
use Rattle.tl_syntax.specs.declared.token.TokenKind.TheVariants as K
use Rattle.tl_syntax.specs.declared.parsed.Name.{Name}
use Rattle.tl_syntax.specs.Grammar.{kind_at, Stands, IsName}
use Rattle.tl_syntax.specs.Statements as R
use Rattle.tl_syntax.specs.Statements.{AreNames}
use Rattle.tl_syntax.proofs.ListsOnce.{Rest, done, append, Compared, within, another_compared, list_end}
use Rattle.tl_syntax.proofs.ExpressionsOnce.{same_end, same_name}
use Rattle.tl_syntax.proofs.ActionsOnce.{at, NoComma, some_comma}

-- a comma and a name
record IsItem (tokens : List Token) (i k : ℕ) (n : Name) : Type 0 where
  middle : ℕ
  stands : Stands tokens K.Comma i middle
  is : IsName tokens middle k n

record Parts (tokens : List Token) (i k : ℕ) (ns : List Name) : Type 0 where
  middle : ℕ
  first_name : Name
  first : IsName tokens i middle first_name
  rest : Rest (IsItem tokens) middle (first_name ∷ []) k ns

parts : {tokens : List Token} {i k : ℕ} {ns : List Name} → AreNames tokens i k ns → Parts tokens i k ns
parts (R.one_name {j = j} {n = n} h) = record { middle = j; first_name = n; first = h; rest = done }
parts (R.one_name_more {k = k} a s h) =
    let p = parts a in record { middle = p.middle; first_name = p.first_name; first = p.first; rest = append p.rest (record { middle = k; stands = s; is = h }) }

abbrev pub Anything : ℕ → Type 0
Anything i = Unit {0}

abbrev SameNames : List Name → List Name → Type 0
SameNames ns ms = ns ≡ ms

item_once : (tokens : List Token) (j k : ℕ) (n : Name) → IsItem tokens j k n → Anything k → (l : ℕ) (m : Name) → IsItem tokens j l m → Anything l → (k ≡ l) × (n ≡ m)
item_once tokens j k n x a l m y b =
    let is : IsName tokens x.middle l m = at (λ z. IsName tokens z l m) (same_end x.stands y.stands) y.is in
    (same_end x.is.stands is.stands, same_name x.is is)

pushed_same : (ns ms : List Name) (n m : Name) → SameNames ns ms → n ≡ m → SameNames (ns ++ n ∷ []) (ms ++ m ∷ [])
pushed_same ns ms n m e f = ap (λ l. l ++ n ∷ []) e ∙ ap (λ x. ms ++ x ∷ []) f

names_compared : {tokens : List Token} {i j : ℕ} {ns : List Name} → AreNames tokens i j ns → (k : ℕ) (ms : List Name) → Parts tokens i k ms →
    Compared (IsItem tokens) SameNames j ns k ms
names_compared {tokens} (R.one_name h) k ms p =
    within (at (λ z. Rest (IsItem tokens) z (p.first_name ∷ []) k ms) (same_end h.stands p.first.stands) p.rest) (ap (λ n. n ∷ []) (same_name h p.first))
names_compared {tokens} (R.one_name_more {j = j} {k = m} {l = l} {ns = ns} {n = n} a s h) k ms p =
    let item : IsItem tokens j l n = record { middle = m; stands = s; is = h } in
    another_compared (IsItem tokens) (λ x y. x ≡ y) SameNames Anything (λ j k x h. tt) pushed_same j l k ns ms n item (item_once tokens j l n item) tt tt (names_compared a k ms p)

pub names_once : {tokens : List Token} {i j k : ℕ} {ns ms : List Name} → AreNames tokens i j ns → NoComma tokens j → AreNames tokens i k ms → NoComma tokens k → (j ≡ k) × (ns ≡ ms)
names_once {j = j} {k = k} {ns = ns} {ms = ms} h a g b =
    list_end j k ns ms (names_compared h k ms (parts g)) (λ l y q. some_comma q.stands a) (λ l y q. some_comma q.stands b)

pub names_start : {tokens : List Token} {i j : ℕ} {ns : List Name} → AreNames tokens i j ns → (n : Name) × (kind_at tokens i ≡ K.Name n.symbol)
names_start (R.one_name {n = n} h) = (n, h.stands.kind_is)
names_start (R.one_name_more a s h) = names_start a
