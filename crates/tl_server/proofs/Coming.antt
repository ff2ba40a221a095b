-- How the next line is read.
use Rattle.std.proofs.Common.{◌≡◌, ◌<◌, ℕ, List, [], ◌∷◌, ◌++◌, true, false, ap, sym, ◌∙◌, subst, append_assoc, append-nil, refl, length, arith, inl, inr, take, lit<}
use Rattle.std.proofs.lemmas.List.{length-take}
use Rattle.std.specs.Prelude.{Some, Option, ◌⊎◌}
use Rattle.tl_server.specs.declared.reader.Came.TheVariants.{Whole, Rest, End}
use Rattle.tl_server.specs.Lines.{HasNoLf}
use Rattle.tl_server.specs.Devices.{Gives, HasEnded}
use Rattle.tl_server.specs.Coming.{ReaderValue, held_of, Scans, Comes, Breaks}
use Rattle.tl_server.proofs.Held.{HasNoLf-append, take_again}
use Rattle.tl_server.specs.declared.reader.TheConstants.{HELD}

-- the line so far consists of the first of these bytes; the others are in the piece or not yet read
pub record HasCome (bytes : List ℕ) (r : ReaderValue) (input : Option (List ℕ)) : Type 0 where
  pub rest : List ℕ
  pub unread : List ℕ
  pub input_is : input ≡ Some unread
  pub partial : HasNoLf rest
  pub held : r.held ≡ held_of rest
  pub whole : bytes ≡ rest ++ (r.left ++ unread)

kept_on : (held p q : List ℕ) → held ≡ held_of p → held_of (held ++ q) ≡ held_of (p ++ q)
kept_on held p q is = ap (λ xs. held_of (xs ++ q)) is ∙ take_again HELD p q

-- no line has begun
pub come_none : (r : ReaderValue) (input : Option (List ℕ)) (left unread : List ℕ) → r.held ≡ [] → r.left ≡ left → input ≡ Some unread → HasCome (left ++ unread) r input
come_none r input left unread held same is =
    record { rest = []; unread = unread; input_is = is; partial = tt; held = held; whole = ap (λ ys. ys ++ unread) (sym same) }

-- the piece had no line feed
pub scanned : (bytes : List ℕ) (r r' : ReaderValue) (input : Option (List ℕ)) → HasCome bytes r input → Scans r false r' → HasCome bytes r' input
scanned bytes r r' input g s =
    record {
      rest = g.rest ++ r.left;
      unread = g.unread;
      input_is = g.input_is;
      partial = HasNoLf-append g.rest r.left g.partial s.0;
      held = s.2 ∙ kept_on r.held g.rest r.left g.held;
      whole = g.whole ∙ sym (append_assoc g.rest r.left g.unread) ∙ (λ j. (g.rest ++ r.left) ++ (sym s.1 j ++ g.unread));
    }

-- the next piece was read
pub refilled : (bytes : List ℕ) (r r' : ReaderValue) (old input : Option (List ℕ)) → HasCome bytes r old → r.left ≡ [] → Gives old r'.left input → r'.held ≡ r.held → HasCome bytes r' input
refilled bytes r r' old input g empty gives held =
    let P : Option (List ℕ) → Type 0 = λ o. Gives o r'.left input in
    let s = subst P g.input_is gives in
    record {
      rest = g.rest;
      unread = s.0;
      input_is = s.1;
      partial = g.partial;
      held = held ∙ g.held;
      whole = g.whole ∙ ap (λ ys. g.rest ++ ys) (ap (λ ys. ys ++ g.unread) empty ∙ s.2);
    }

-- the piece had a line feed
pub line_whole : (bytes : List ℕ) (r r' : ReaderValue) (input : Option (List ℕ)) → HasCome bytes r input → Scans r true r' → Comes bytes Whole r' input
line_whole bytes r r' input g s = (
  g.rest ++ s.0,
  g.unread,
  HasNoLf-append g.rest s.0 g.partial s.1,
  s.3 ∙ kept_on r.held g.rest s.0 g.held,
  g.input_is,
  g.whole ∙ ap (λ ys. g.rest ++ (ys ++ g.unread)) s.2 ∙ ap (λ ys. g.rest ++ ys) (append_assoc s.0 (10 ∷ r'.left) g.unread) ∙ sym (append_assoc g.rest s.0 (10 ∷ (r'.left ++ g.unread))),
)

-- the input ended
ended : (bytes : List ℕ) (r : ReaderValue) (input : Option (List ℕ)) → (g : HasCome bytes r input) → r.left ≡ [] → HasEnded input → bytes ≡ g.rest
ended bytes r input g empty over =
    let none : g.unread ≡ [] = subst HasEnded g.input_is over in
    g.whole ∙ (λ j. g.rest ++ (empty j ++ none j)) ∙ append-nil g.rest

take_none : (n b : ℕ) (bs : List ℕ) → 0 < n → take n (b ∷ bs) ≡ [] → ⊥
take_none n b bs some e = omega (arith, ap length e, length-take n (b ∷ bs))

held_none : (bytes : List ℕ) → held_of bytes ≡ [] → bytes ≡ []
held_none [] e = refl
held_none (b ∷ bs) e = absurd (take_none HELD b bs (lit< tt) e)

held_some : (bytes : List ℕ) → 0 < length (held_of bytes) → 0 < length bytes
held_some bytes e = omega (arith, length-take HELD bytes)

-- the input ended within a line
pub line_rest : (bytes : List ℕ) (r r' : ReaderValue) (old input : Option (List ℕ)) → HasCome bytes r old → r.left ≡ [] → HasEnded old → r'.held ≡ r.held → 0 < length r'.held → Comes bytes Rest r' input
line_rest bytes r r' old input g empty over held some =
    let is : bytes ≡ g.rest = ended bytes r old g empty over in
    let line : r'.held ≡ held_of bytes = held ∙ g.held ∙ ap held_of (sym is) in
    let more : 0 < length (held_of bytes) = subst (λ (xs : List ℕ). 0 < length xs) line some in
    (subst HasNoLf (sym is) g.partial, held_some bytes more, line)

-- the input ended, and there is no further line
pub line_none : (bytes : List ℕ) (r r' : ReaderValue) (old input : Option (List ℕ)) → HasCome bytes r old → r.left ≡ [] → HasEnded old → r'.held ≡ r.held → r'.held ≡ [] → Comes bytes End r' input
line_none bytes r r' old input g empty over held none =
    let is : bytes ≡ g.rest = ended bytes r old g empty over in
    let line : [] ≡ held_of bytes = sym none ∙ held ∙ g.held ∙ ap held_of (sym is) in
    held_none bytes (sym line)

-- a read failed
pub breaks : (bytes : List ℕ) (r : ReaderValue) (old input : Option (List ℕ)) → HasCome bytes r old → r.left ≡ [] → input ≡ old → Breaks bytes input
breaks bytes r old input g empty same = (g.rest, g.unread, g.partial, same ∙ g.input_is, g.whole ∙ ap (λ ys. g.rest ++ (ys ++ g.unread)) empty)

-- the bytes of the first piece had no line feed
pub none_before : (left first : List ℕ) → ((left ≡ first) ⊎ HasNoLf first) → HasNoLf left → HasNoLf first
none_before left first (inl same) h = subst HasNoLf same h
none_before left first (inr none) h = none
