-- The names of procedures are words.
use Rattle.std.proofs.Common.{◌≡◌, ℕ, zero, suc, ◌<◌, List, [], ◌∷◌, length, take, get_or, Bool, true, false, not, ◌||◌, Some, refl, sym, subst, arith, get_or-take, length-take}
use Rattle.std.specs.Prelude.{slice_get, IsTrue, ◌==◌}
use Rattle.std.specs.Int.{is_in_range}
use Rattle.std.specs.List.{All}
use Rattle.std.proofs.lemmas.List.Elements.{All-nil, All-cons, All-head, All-tail, All-push, All-from_get_or}
use Rattle.std.proofs.lemmas.List.Sums.{fails_before_first}
use Rattle.tl_syntax.specs.declared.parsed.Declaration.{Declaration}
use Rattle.tl_syntax.specs.declared.parsed.Declaration.TheVariants as D
use Rattle.tl_syntax.specs.declared.parsed.Procedure.{Procedure as TextProcedure}
use Rattle.tl_syntax.specs.declared.parsed.Name.{Name}
use Rattle.tl_syntax.specs.declared.token.Symbol.{Symbol}
use Rattle.tl_syntax.specs.declared.token.Token.{Token}
use Rattle.tl_syntax.specs.declared.token.TokenKind.TheVariants as K
use Rattle.tl_syntax.specs.Declarations.{IsProcedure as IsText, procedure, procedure_else, IsDeclaration, field, constant, procedures, parts, AreDeclarations, no_more, next}
use Rattle.tl_syntax.specs.Grammar.{kind_at, IsName}
use Rattle.tl_syntax.specs.Tokens.{stays_word, starts_word, word_left, IsReserved, IsLongSign, IsShortSign, Begins, blank, comment, word, digits, long, short, IsToken, reserved, name, sign, AreTokens, end, token}
use Rattle.tl_syntax.specs.Text.{IsText as IsSpelled}
use Rattle.tl_lowering.specs.declared.program.Procedure.{Procedure}
use Rattle.tl_lowering.specs.Fit.{IsWord}
use Rattle.tl_lowering.specs.Names.{Names}
use Rattle.tl_lowering.specs.Reading.{AreDeclared, none_declared, next_field, next_constant, next_procedure, next_part}

yes : (b : Bool) → not b ≡ false → IsTrue b
yes true e = refl
yes false e = cc

or_more : (d u l y : Bool) → ((u || l) || y) ≡ true → (((d || u) || l) || y) ≡ true
or_more true u l y e = refl
or_more false u l y e = e

starts_stays : (b : ℕ) → starts_word b ≡ true → IsTrue (stays_word b)
starts_stays b e = or_more (is_in_range 48 57 b) (is_in_range 65 90 b) (is_in_range 97 122 b) (b == 95) e

stays : (after : List ℕ) (k : ℕ) → k < length (take (word_left after) after) → IsTrue (stays_word (get_or (take (word_left after) after) k 0))
stays after k lt =
    let few : k < word_left after = omega (arith, length-take (word_left after) after) in
    subst (λ b. IsTrue (stays_word b)) (sym (get_or-take (word_left after) after k 0 few))
    (yes (stays_word (get_or after k 0)) (fails_before_first (λ b. not (stays_word b)) after k 0 few))

-- a word consists of letters, digits and `_`
letters : (first : ℕ) (after : List ℕ) → starts_word first ≡ true → IsWord (first ∷ take (word_left after) after)
letters first after s =
    All-cons (λ b. IsTrue (stays_word b)) first (take (word_left after) after) (starts_stays first s)
    (All-from_get_or (λ b. IsTrue (stays_word b)) (take (word_left after) after) 0 (stays after))

found : (names : List (List ℕ)) (i : ℕ) (w : List ℕ) → slice_get names i ≡ Some w → get_or names i [] ≡ w
found [] i w e = cc
found (x ∷ names) zero w e = cc
found (x ∷ names) (suc i) w e = found names i w e

not_reserved : {w : List ℕ} {s : Symbol} → IsReserved w (K.Name s) → ⊥
not_reserved h = elim h [ ]

not_long : {a b : ℕ} {s : Symbol} → IsLongSign a b (K.Name s) → ⊥
not_long h = elim h [ ]

not_short : {a : ℕ} {s : Symbol} → IsShortSign a (K.Name s) → ⊥
not_short h = elim h [ ]

spelled : {names : List (List ℕ)} {first n : ℕ} {after w : List ℕ} {piece : _} {s : Symbol} → Begins first after piece n → IsToken names piece w (K.Name s)
    → w ≡ first ∷ take n after → IsWord (get_or names s.0 [])
spelled (blank b) t e = elim t [ ]
spelled (comment a b) t e = elim t [ ]
spelled (word b) (reserved r) e = absurd (not_reserved r)
spelled {names} {first} {after = after} {w = w} (word b) (name {symbol = symbol} free few is) e =
    subst IsWord (sym (found names symbol w is)) (subst IsWord (sym e) (letters first after b))
spelled (digits b) t e = elim t [ ]
spelled (long b l) sign e = absurd (not_long l)
spelled (short l alone) sign e = absurd (not_short l)

at_token : {names : List (List ℕ)} {offset : ℕ} {text : List ℕ} {tokens : List Token} → AreTokens names offset text tokens → (i : ℕ) (s : Symbol) → kind_at tokens i ≡ K.Name s
    → IsWord (get_or names s.0 [])
unfolding kind_at
at_token end zero s e = cc
at_token end (suc i) s e = cc
at_token (blank b rest) i s e = at_token rest i s e
at_token {names} (token {piece = piece} b t rest) zero s e = spelled b (subst (IsToken names piece _) e t) refl
at_token (token b t rest) (suc i) s e = at_token rest i s e

-- the name of a procedure is a word
abbrev pub IsNamed : List (List ℕ) → Declaration → Type 0
IsNamed names (D.Field n w) = Unit {0}
IsNamed names (D.Constant n e) = Unit {0}
IsNamed names (D.Procedure text) = IsWord (get_or names text.name.symbol.0 [])
IsNamed names (D.Part p) = Unit {0}

module _ {names : List (List ℕ)} {text : List ℕ} {tokens : List Token} (read : AreTokens names 0 text tokens) where
  of_name : {i j : ℕ} {n : Name} → IsName tokens i j n → IsWord (get_or names n.symbol.0 [])
  of_name {i} {n = n} h = at_token read i n.symbol h.stands.kind_is

  of_procedure : {i j : ℕ} {t : TextProcedure} → IsText tokens i j t → IsNamed names (D.Procedure t)
  of_procedure (procedure r p n l a b w o) = of_name n
  of_procedure (procedure_else r p n l a b e w o) = of_name n

  of_declaration : {i j : ℕ} {d : Declaration} → IsDeclaration tokens i j d → IsNamed names d
  of_declaration (field f n a m s) = tt
  of_declaration (constant c n a m s) = tt
  of_declaration (procedures p) = of_procedure p
  of_declaration (parts p) = tt

  of_declarations : {i j : ℕ} {ds : List Declaration} → AreDeclarations tokens i j ds → All (IsNamed names) ds
  of_declarations no_more = All-nil (IsNamed names)
  of_declarations (next {ds = ds} {d = d} before d_is) = All-push (IsNamed names) ds d (of_declarations before) (of_declaration d_is)

declared : {spellings : List (List ℕ)} {before : List Declaration} {names : Names} {ds : List Declaration} {ps : List Procedure} → AreDeclared spellings before names ds ps → All (IsNamed spellings) ds
    → All (λ (p : Procedure). IsWord p.name.items) ps
declared none_declared h = All-nil _
declared {spellings} (next_field {name = n} {number = w} {rest = rest} f more) h = declared more (All-tail (IsNamed spellings) (D.Field n w) rest h)
declared {spellings} (next_constant {name = n} {value = e} {rest = rest} fresh is more) h = declared more (All-tail (IsNamed spellings) (D.Constant n e) rest h)
declared {spellings} (next_part {part = p} {rest = rest} fresh more) h = declared more (All-tail (IsNamed spellings) (D.Part p) rest h)
declared {spellings} (next_procedure {text = text} {p = p} {rest = rest} {ps = ps} fresh is more) h =
    All-cons (λ (p : Procedure). IsWord p.name.items) p ps (subst IsWord (sym is.name) (All-head (IsNamed spellings) (D.Procedure text) rest h))
    (declared more (All-tail (IsNamed spellings) (D.Procedure text) rest h))

pub are_words : {text : List ℕ} {names : List (List ℕ)} {known : Names} {ds es : List Declaration} {ps : List Procedure} → IsSpelled text names ds → es ≡ ds → AreDeclared names [] known es ps
    → All (λ (p : Procedure). IsWord p.name.items) ps
are_words {names = names} {known = known} {ps = ps} h e d = declared (subst (λ z. AreDeclared names [] known z ps) e d) (of_declarations h.read h.spelled.declarations)
