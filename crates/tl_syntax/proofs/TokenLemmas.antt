-- Reading a text piece by piece: how the tokens read so far relate to the tokens of the whole text.
use Rattle.std.proofs.Common.{◌≡◌, ℕ, zero, suc, ◌+◌, ◌-◌, ◌≤◌, List, [], ◌∷◌, ◌++◌, length, take, drop, Option, None, Some, slice_get, sym, ap, subst, ◌∙◌, arith, append_assoc, append-nil, length-drop, add-one}
use Rattle.tl_syntax.specs.declared.token.Token.{Token}
use Rattle.tl_syntax.specs.declared.token.TokenKind.{TokenKind}
use Rattle.tl_syntax.specs.declared.token.TokenKind.TheVariants as K
use Rattle.tl_syntax.specs.declared.lexer.Piece.{Piece}
use Rattle.tl_syntax.specs.Tokens as T
use Rattle.tl_syntax.specs.Tokens.{Begins, IsToken, AreTokens, Extends, Adds}

pub get_front : {A : Type 0} (xs ys : List A) (k : ℕ) (x : A) → slice_get xs k ≡ Some x → slice_get (xs ++ ys) k ≡ Some x
get_front [] ys k x e = cc
get_front (a ∷ xs) ys zero x e = e
get_front (a ∷ xs) ys (suc k) x e = get_front xs ys k x e

-- more names don't change the symbols
pub token_stays : {names final : List (List ℕ)} {piece : Piece} {word : List ℕ} {kind : TokenKind} → Extends names final →
    IsToken names piece word kind → IsToken final piece word kind
token_stays x (T.reserved r) = T.reserved r
token_stays {names} x (T.name {word = w} {symbol = s} free fits at) =
    T.name free fits (subst (λ l. slice_get l s ≡ Some w) (sym x.is) (get_front names x.more s w at))
token_stays x (T.number d) = T.number d
token_stays x T.sign = T.sign

pub extends_more : {a b c : List (List ℕ)} → Extends a b → Extends b c → Extends a c
extends_more {a} x y = record { more = x.more ++ y.more; is = y.is ∙ ap (λ l. l ++ y.more) x.is ∙ append_assoc a x.more y.more }

-- the tokens read so far, followed by the tokens of the rest, are the tokens of the text
pub record SoFar (text rest : List ℕ) (names : List (List ℕ)) (read : List Token) : Type 0 where
  pub all : (final : List (List ℕ)) (tokens : List Token) → Extends names final → AreTokens final (length text - length rest) rest tokens →
      AreTokens final 0 text (read ++ tokens)

pub so_far_none : (text : List ℕ) (names : List (List ℕ)) (read : List Token) → read ≡ [] → SoFar text text names read
so_far_none text names read e = record {
  all = λ final tokens x h.
      subst (λ l. AreTokens final 0 text (l ++ tokens)) (sym e)
      (let at : length text - length text ≡ 0 = omega arith in subst (λ o. AreTokens final o text tokens) at h);
}

offset_next : (text rest after : List ℕ) (first n : ℕ) → rest ≡ first ∷ after → length rest ≤ length text → n ≤ length after →
    length text - length (drop n after) ≡ (length text - length rest) + (n + 1)
offset_next text rest after first n e fits within =
    let long : length rest ≡ suc (length after) = ap length e in
    let left : length (drop n after) ≡ length after - n = length-drop n after in
    omega arith

pub so_far_next : {text rest after : List ℕ} {first n : ℕ} {names names' : List (List ℕ)} {read read' : List Token} {piece : Piece} {word : List ℕ} →
    SoFar text rest names read → rest ≡ first ∷ after → length rest ≤ length text → n ≤ length after → word ≡ first ∷ take n after →
    Begins first after piece n → Adds word (length text - length rest) names names' read read' piece → SoFar text (drop n after) names' read'
so_far_next {text} {rest} {after} {first} {n} {names} {names'} {read} {read'} so e fits within w b (T.nothing same none) = record {
  all = λ final tokens x h.
      let next : AreTokens final ((length text - length rest) + (n + 1)) (drop n after) tokens =
      subst (λ o. AreTokens final o (drop n after) tokens) (offset_next text rest after first n e fits within) h in
      let more : Extends names final = subst (λ l. Extends l final) same x in
      let here : AreTokens final (length text - length rest) rest tokens =
      subst (λ l. AreTokens final (length text - length rest) l tokens) (sym e) (T.blank b next) in
      subst (λ l. AreTokens final 0 text (l ++ tokens)) (sym none) (so.all final tokens more here);
}
so_far_next {text} {rest} {after} {first} {n} {names} {names'} {read} {read'} so e fits within w b (T.one {piece = p} {kind = k} more is pushed) = record {
  all = λ final tokens x h.
      let offset = length text - length rest in
      let t : Token = record { kind = k; offset = offset } in
      let next : AreTokens final (offset + (n + 1)) (drop n after) tokens =
      subst (λ o. AreTokens final o (drop n after) tokens) (offset_next text rest after first n e fits within) h in
      let known : IsToken final p (first ∷ take n after) k = subst (λ l. IsToken final p l k) w (token_stays x is) in
      let here : AreTokens final offset rest (t ∷ tokens) =
      subst (λ l. AreTokens final offset l (t ∷ tokens)) (sym e) (T.token b known next) in
      let joined : read' ++ tokens ≡ read ++ (t ∷ tokens) = ap (λ l. l ++ tokens) pushed ∙ append_assoc read (t ∷ []) tokens in
      subst (λ l. AreTokens final 0 text l) (sym joined) (so.all final (t ∷ tokens) (extends_more more x) here);
}

pub so_far_end : {text rest : List ℕ} {names : List (List ℕ)} {read read' : List Token} → SoFar text rest names read → length rest ≡ 0 →
    read' ≡ read ++ (record { kind = K.End; offset = length text }) ∷ [] → AreTokens names 0 text read'
so_far_end {text} {rest} {names} {read} {read'} so none pushed =
    let last : List Token = (record { kind = K.End; offset = length text }) ∷ [] in
    let at : length text - length rest ≡ length text = omega arith in
    let here : AreTokens names (length text - length rest) rest last =
    subst (λ o. AreTokens names o rest last) (sym at) (at_end rest none) in
    subst (λ l. AreTokens names 0 text l) (sym pushed) (so.all names last (record { more = []; is = sym (append-nil names) }) here)
  where
    at_end : (l : List ℕ) → length l ≡ 0 → AreTokens names (length text) l ((record { kind = K.End; offset = length text }) ∷ [])
    at_end [] e = T.end
    at_end (b ∷ l) e = absurd (omega arith)

-- the same with the rest given by an equation
pub so_far_left : {text rest after left : List ℕ} {first n : ℕ} {names names' : List (List ℕ)} {read read' : List Token} {piece : Piece} {word : List ℕ} →
    left ≡ drop n after → SoFar text rest names read → rest ≡ first ∷ after → length rest ≤ length text → n ≤ length after → word ≡ first ∷ take n after →
    Begins first after piece n → Adds word (length text - length rest) names names' read read' piece → SoFar text left names' read'
so_far_left {text} {names' = names'} {read' = read'} l so e fits within w b a =
    subst (λ left. SoFar text left names' read') (sym l) (so_far_next so e fits within w b a)

pub adds_extends : {word : List ℕ} {offset : ℕ} {names names' : List (List ℕ)} {read read' : List Token} {piece : Piece} →
    Adds word offset names names' read read' piece → Extends names names'
adds_extends {names = names} (T.nothing same none) = record { more = []; is = same ∙ sym (append-nil names) }
adds_extends (T.one more is pushed) = more

pub take_more : (first : ℕ) (after rest word : List ℕ) (n : ℕ) → word ≡ take (n + 1) rest → rest ≡ first ∷ after → word ≡ first ∷ take n after
take_more first after rest word n e f =
    let one : take (n + 1) (first ∷ after) ≡ first ∷ take n after = rw add-one in
    e ∙ ap (λ l. take (n + 1) l) f ∙ one

pub alone_some : {first second : ℕ} {o : Option ℕ} → o ≡ Some second → (first ≡ 47 → second ≡ 47 → ⊥) → T.IsNoLongSign first second → T.IsAlone first o
alone_some {first} e slash none = subst (λ o. T.IsAlone first o) (sym e) (slash, none)

pub alone_none : (first : ℕ) {o : Option ℕ} → o ≡ None → T.IsAlone first o
alone_none first e = subst (λ o. T.IsAlone first o) (sym e) tt
