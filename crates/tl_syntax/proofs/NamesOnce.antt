-- A text has only one list of names: they are numbered in order of appearance.
use Rattle.std.proofs.Common.{◌≡◌, ℕ, zero, suc, ◌+◌, ◌<◌, List, [], ◌∷◌, ◌++◌, length, take, drop, Some, slice_get, refl, sym, ap, subst, ◌∙◌, arith, ◌⊎◌, inl, inr, append_assoc, length-append}
use Rattle.tl_syntax.specs.declared.token.Token.{Token}
use Rattle.tl_syntax.specs.declared.token.TokenKind.{TokenKind}
use Rattle.tl_syntax.specs.declared.token.TokenKind.TheVariants as K
use Rattle.tl_syntax.specs.declared.lexer.Piece.{Piece}
use Rattle.tl_syntax.specs.declared.lexer.Piece.TheVariants as P
use Rattle.tl_syntax.specs.Tokens as T
use Rattle.tl_syntax.specs.Tokens.{IsShortSign, IsLongSign, IsReserved, Begins, IsToken, AreDistinct, AreTokens, IsKnown, AreNumbered, Extends, first_names}
use Rattle.tl_syntax.proofs.TokenLemmas.{get_front}
use Rattle.tl_syntax.proofs.TokensOnce.{begins_once, no_blank}

-- ---- names and other tokens

abbrev pub is_name : TokenKind → ℕ
is_name (K.Name s) = 1
is_name kind = 0

pub short_no_name : {b : ℕ} {kind : TokenKind} → IsShortSign b kind → is_name kind ≡ 0
short_no_name (T.left_parenthesis e) = refl
short_no_name (T.right_parenthesis e) = refl
short_no_name (T.left_brace e) = refl
short_no_name (T.right_brace e) = refl
short_no_name (T.comma e) = refl
short_no_name (T.semicolon e) = refl
short_no_name (T.colon e) = refl
short_no_name (T.dot e) = refl
short_no_name (T.assign e) = refl
short_no_name (T.plus e) = refl
short_no_name (T.minus e) = refl
short_no_name (T.times e) = refl
short_no_name (T.divide e) = refl
short_no_name (T.remainder e) = refl
short_no_name (T.less_sign e) = refl
short_no_name (T.greater_sign e) = refl

pub long_no_name : {b c : ℕ} {kind : TokenKind} → IsLongSign b c kind → is_name kind ≡ 0
long_no_name (T.add e f) = refl
long_no_name (T.subtract e f) = refl
long_no_name (T.less e f) = refl
long_no_name (T.greater e f) = refl
long_no_name (T.equal e f) = refl
long_no_name (T.unequal e f) = refl

pub word_no_name : {word : List ℕ} {kind : TokenKind} → IsReserved word kind → is_name kind ≡ 0
word_no_name (T.word_and e) = refl
word_no_name (T.word_break e) = refl
word_no_name (T.word_child e) = refl
word_no_name (T.word_const e) = refl
word_no_name (T.word_descend e) = refl
word_no_name (T.word_else e) = refl
word_no_name (T.word_emit e) = refl
word_no_name (T.word_fail e) = refl
word_no_name (T.word_field e) = refl
word_no_name (T.word_for e) = refl
word_no_name (T.word_free e) = refl
word_no_name (T.word_if e) = refl
word_no_name (T.word_kids e) = refl
word_no_name (T.word_let e) = refl
word_no_name (T.word_lock e) = refl
word_no_name (T.word_node e) = refl
word_no_name (T.word_not e) = refl
word_no_name (T.word_or e) = refl
word_no_name (T.word_proc e) = refl
word_no_name (T.word_repeat e) = refl
word_no_name (T.word_require e) = refl
word_no_name (T.word_return e) = refl
word_no_name (T.word_try e) = refl

abbrev pub sign_name : Piece → ℕ
sign_name (P.Sign kind) = is_name kind
sign_name piece = 0

-- no sign is a name
pub begins_no_name : {first n : ℕ} {after : List ℕ} {piece : Piece} → Begins first after piece n → sign_name piece ≡ 0
begins_no_name (T.blank e) = refl
begins_no_name (T.comment e f) = refl
begins_no_name (T.word e) = refl
begins_no_name (T.digits e) = refl
begins_no_name (T.long e s) = long_no_name s
begins_no_name (T.short s e) = short_no_name s

pub known_other : (n : ℕ) (kind : TokenKind) → is_name kind ≡ 0 → IsKnown n kind
known_other n (K.Name s) e = absurd (omega (arith, e))
known_other n kind e = tt

symbol_in : TokenKind → ℕ
symbol_in (K.Name s) = s.0
symbol_in kind = 0

same_symbol : (i j : ℕ) → K.Name (record { 0 = i }) ≡ K.Name (record { 0 = j }) → i ≡ j
unfolding symbol_in
same_symbol i j e = ap symbol_in e

-- ---- how names are numbered

view : {known last : ℕ} {token : Token} {rest : List Token} → AreNumbered known (token ∷ rest) last →
    (IsKnown known token.kind × AreNumbered known rest last) ⊎ ((token.kind ≡ K.Name (record { 0 = known })) × AreNumbered (suc known) rest last)
view (T.known_token k r) = inl (k, r)
view (T.new_name e r) = inr (e, r)

all_known : {known last : ℕ} → AreNumbered known [] last → last ≡ known
all_known T.no_tokens = refl

no_new : {A : Type 0} {kind : TokenKind} {n : ℕ} → is_name kind ≡ 0 → kind ≡ K.Name (record { 0 = n }) → A
no_new e f = absurd (omega (arith, e, ap is_name f))

pub numbered_more : {a b : ℕ} {ts : List Token} (token : Token) → AreNumbered a ts b → IsKnown b token.kind → AreNumbered a (ts ++ token ∷ []) b
numbered_more token T.no_tokens k = T.known_token k T.no_tokens
numbered_more token (T.known_token l r) k = T.known_token l (numbered_more token r k)
numbered_more token (T.new_name e r) k = T.new_name e (numbered_more token r k)

pub numbered_new : {a b : ℕ} {ts : List Token} (token : Token) → AreNumbered a ts b → token.kind ≡ K.Name (record { 0 = b }) → AreNumbered a (ts ++ token ∷ []) (suc b)
numbered_new token T.no_tokens k = T.new_name k T.no_tokens
numbered_new token (T.known_token l r) k = T.known_token l (numbered_new token r k)
numbered_new token (T.new_name e r) k = T.new_name e (numbered_new token r k)

-- ---- lists that begin alike

same_some : {A : Type 0} (a b : A) → Some a ≡ Some b → a ≡ b
same_some a b e = cc

get_before : (xs ys : List (List ℕ)) (i : ℕ) (x : List ℕ) → slice_get (xs ++ ys) i ≡ Some x → i < length xs → slice_get xs i ≡ Some x
get_before [] ys i x e less = absurd (omega (arith, less))
get_before (a ∷ xs) ys zero x e less = e
get_before (a ∷ xs) ys (suc i) x e less = get_before xs ys i x e (omega (arith, less))

-- the element after the front part is the first of the rest
next_is : (xs ys : List (List ℕ)) (i : ℕ) (x : List ℕ) → slice_get (xs ++ ys) i ≡ Some x → i ≡ length xs → (zs : List (List ℕ)) × (ys ≡ x ∷ zs)
next_is [] [] i x e at = absurd (by (subst (λ i. slice_get [] i ≡ Some x) at e))
  where
    by : slice_get {X = List ℕ} [] 0 ≡ Some x → ⊥
    by e = cc
next_is [] (y ∷ ys) i x e at = (ys, ap (λ z. z ∷ ys) (same_some y x (subst (λ i. slice_get (y ∷ ys) i ≡ Some x) at e)))
next_is (a ∷ xs) ys zero x e at = absurd (omega (arith, at))
next_is (a ∷ xs) ys (suc i) x e at = next_is xs ys i x e (omega (arith, at))

record Shares (known : ℕ) (names others : List (List ℕ)) : Type 0 where
  front : List (List ℕ)
  more : List (List ℕ)
  other : List (List ℕ)
  names_are : names ≡ front ++ more
  others_are : others ≡ front ++ other
  long : length front ≡ known

none_more : (xs ys : List (List ℕ)) → length (xs ++ ys) ≡ length xs → ys ≡ []
none_more [] [] e = refl
none_more [] (y ∷ ys) e = absurd (omega (arith, e))
none_more (x ∷ xs) ys e = none_more xs ys (omega (arith, e))

same_names : {known : ℕ} {names others : List (List ℕ)} → Shares known names others → length names ≡ known → length others ≡ known → names ≡ others
same_names s e f =
    let a : s.more ≡ [] = none_more s.front s.more (sym (ap length s.names_are) ∙ e ∙ sym s.long) in
    let b : s.other ≡ [] = none_more s.front s.other (sym (ap length s.others_are) ∙ f ∙ sym s.long) in
    s.names_are ∙ ap (λ l. s.front ++ l) (a ∙ sym b) ∙ sym s.others_are

-- a name that is next in both lists
shares_more : {known : ℕ} {names others : List (List ℕ)} (word : List ℕ) → Shares known names others → slice_get names known ≡ Some word →
    slice_get others known ≡ Some word → Shares (suc known) names others
shares_more {known} word s e f =
    let a = next_is s.front s.more known word (subst (λ l. slice_get l known ≡ Some word) s.names_are e) (sym s.long) in
    let b = next_is s.front s.other known word (subst (λ l. slice_get l known ≡ Some word) s.others_are f) (sym s.long) in
    record {
      front = s.front ++ word ∷ [];
      more = a.0;
      other = b.0;
      names_are = s.names_are ∙ ap (λ l. s.front ++ l) a.1 ∙ sym (append_assoc s.front (word ∷ []) a.0);
      others_are = s.others_are ∙ ap (λ l. s.front ++ l) b.1 ∙ sym (append_assoc s.front (word ∷ []) b.0);
      long = grind (arith, length-append, s.long);
    }

-- a known name is at the same position in both lists
known_same : {known : ℕ} {names others : List (List ℕ)} (word : List ℕ) (i : ℕ) → Shares known names others → i < known → slice_get names i ≡ Some word →
    slice_get others i ≡ Some word
known_same word i s less e =
    let inside : i < length s.front = omega (arith, less, s.long) in
    let here = get_before s.front s.more i word (subst (λ l. slice_get l i ≡ Some word) s.names_are e) inside in
    subst (λ l. slice_get l i ≡ Some word) (sym s.others_are) (get_front s.front s.other i word here)

flip : {known : ℕ} {names others : List (List ℕ)} → Shares known names others → Shares known others names
flip s = record { front = s.front; more = s.other; other = s.more; names_are = s.others_are; others_are = s.names_are; long = s.long }

-- ---- tokens

abbrev Goes : List (List ℕ) → List (List ℕ) → List Token → List Token → Type 0
Goes names others ts us = (known : ℕ) → Shares known names others → AreNumbered known ts (length names) → AreNumbered known us (length others) → names ≡ others

other_step : {names others : List (List ℕ)} {ts us : List Token} {token next : Token} → Goes names others ts us → is_name token.kind ≡ 0 → is_name next.kind ≡ 0 → Goes names others (token ∷ ts) (next ∷ us)
other_step {names} {others} {ts} {us} {token} {next} go e f known s x y = by (view x) (view y)
  where
    by : ((IsKnown known token.kind × AreNumbered known ts (length names)) ⊎ ((token.kind ≡ K.Name (record { 0 = known })) × AreNumbered (suc known) ts (length names))) →
        ((IsKnown known next.kind × AreNumbered known us (length others)) ⊎ ((next.kind ≡ K.Name (record { 0 = known })) × AreNumbered (suc known) us (length others))) → names ≡ others
    by (inl a) (inl b) = go known s a.1 b.1
    by (inl a) (inr b) = no_new f b.0
    by (inr a) b = no_new e a.0

name_step : {names others : List (List ℕ)} {ts us : List Token} (offset i j : ℕ) (word : List ℕ) → AreDistinct names → AreDistinct others → Goes names others ts us →
    slice_get names i ≡ Some word → slice_get others j ≡ Some word →
    Goes names others (record { kind = K.Name (record { 0 = i }); offset = offset } ∷ ts) (record { kind = K.Name (record { 0 = j }); offset = offset } ∷ us)
name_step {names} {others} {ts} {us} offset i j word distinct apart go e f known s x y = by (view x) (view y)
  where
    by : ((i < known) × AreNumbered known ts (length names)) ⊎ ((K.Name (record { 0 = i }) ≡ K.Name (record { 0 = known })) × AreNumbered (suc known) ts (length names)) →
        ((j < known) × AreNumbered known us (length others)) ⊎ ((K.Name (record { 0 = j }) ≡ K.Name (record { 0 = known })) × AreNumbered (suc known) us (length others)) → names ≡ others
    by (inl a) (inl b) = go known s a.1 b.1
    by (inl a) (inr b) = absurd (omega (arith, a.0, apart i j word (known_same word i s a.0 e) f, same_symbol j known b.0))
    by (inr a) (inl b) = absurd (omega (arith, b.0, distinct i j word e (known_same word j (flip s) b.0 f), same_symbol i known a.0))
    by (inr a) (inr b) =
        let here : slice_get names known ≡ Some word = subst (λ n. slice_get names n ≡ Some word) (same_symbol i known a.0) e in
        let there : slice_get others known ≡ Some word = subst (λ n. slice_get others n ≡ Some word) (same_symbol j known b.0) f in
        go (suc known) (shares_more word s here there) a.1 b.1

token_step : {names others : List (List ℕ)} {ts us : List Token} (offset : ℕ) {piece : Piece} {word : List ℕ} {kind other : TokenKind} → AreDistinct names → AreDistinct others →
    sign_name piece ≡ 0 → Goes names others ts us → IsToken names piece word kind → IsToken others piece word other →
    Goes names others (record { kind = kind; offset = offset } ∷ ts) (record { kind = other; offset = offset } ∷ us)
token_step offset distinct apart none go (T.reserved r) (T.reserved s) = other_step go (word_no_name r) (word_no_name s)
token_step offset distinct apart none go (T.reserved r) (T.name free fits at) = absurd (free _ r)
token_step offset distinct apart none go (T.name free fits at) (T.reserved s) = absurd (free _ s)
token_step offset distinct apart none go (T.name {word = w} {symbol = i} free fits at) (T.name {symbol = j} free2 fits2 at2) = name_step offset i j w distinct apart go at at2
token_step offset distinct apart none go (T.number d) (T.number e) = other_step go refl refl
token_step offset distinct apart none go T.sign T.sign = other_step go none none

names_go : {names others : List (List ℕ)} {offset : ℕ} {text : List ℕ} {ts us : List Token} → AreDistinct names → AreDistinct others → AreTokens names offset text ts →
    AreTokens others offset text us → Goes names others ts us
names_go {names} {others} distinct apart T.end T.end = last
  where
    last : {o p : ℕ} → Goes names others (record { kind = K.End; offset = o } ∷ []) (record { kind = K.End; offset = p } ∷ [])
    last known s x y = other_step (λ known s x y. same_names s (all_known x) (all_known y)) refl refl known s x y
names_go {others = others} distinct apart (T.blank {offset = o} {after = after} b h) (T.blank {tokens = us} c k) =
    names_go distinct apart h (subst (λ n. AreTokens others (o + (n + 1)) (drop n after) us) (sym (begins_once b c).1) k)
names_go distinct apart (T.blank b h) (T.token c t k) = absurd (no_blank (begins_once b c).0 t)
names_go distinct apart (T.token c t k) (T.blank b h) = absurd (no_blank (begins_once b c).0 t)
names_go {names} {others} distinct apart (T.token {offset = o} {first = f} {n = n} {after = after} {piece = p} b t h) (T.token {n = m} {kind = other} {tokens = us} c s k) =
    let same = begins_once b c in
    let rest = names_go distinct apart h (subst (λ x. AreTokens others (o + (x + 1)) (drop x after) us) (sym same.1) k) in
    let piece : IsToken others p (f ∷ take m after) other = subst (λ q. IsToken others q (f ∷ take m after) other) (sym same.0) s in
    let token : IsToken others p (f ∷ take n after) other = subst (λ x. IsToken others p (f ∷ take x after) other) (sym same.1) piece in
    token_step o distinct apart (begins_no_name b) rest t token

-- two readings of a text have the same names
pub names_once : {names others : List (List ℕ)} {text : List ℕ} {ts us : List Token} → Extends first_names names → Extends first_names others → AreDistinct names →
    AreDistinct others → AreTokens names 0 text ts → AreTokens others 0 text us → AreNumbered (length first_names) ts (length names) →
    AreNumbered (length first_names) us (length others) → names ≡ others
names_once x y distinct apart read again numbered too =
    names_go distinct apart read again (length first_names)
    (record { front = first_names; more = x.more; other = y.more; names_are = x.is; others_are = y.is; long = refl }) numbered too
