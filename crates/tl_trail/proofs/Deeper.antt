-- A value that is read with a smaller nesting limit is read with a larger one, and items are read with more steps allowed.
use Rattle.std.proofs.Common.{◌≡◌, ℕ, zero, suc, ◌≤◌, List, [], ◌∷◌, length, Option, Some, None, option_map, option_and_then, refl, sym, ap, subst, arith}
use Rattle.std.specs.Prelude.{⊤}
use Rattle.json.specs.Token.{Token}
use Rattle.json.specs.Json.{Json, array, object, Items, item, Members, member, Parse, parse_map, after_end_array, read_key, items_step, members_step, items, members, value_with, value}

abbrev Kept : {A : Type 0} → Option A → Option A → Type 0
Kept None o = ⊤
Kept (Some a) o = o ≡ Some a

mapped : {A B : Type 0} (f : A → B) (o p : Option A) → Kept o p → Kept (option_map f o) (option_map f p)
mapped f None p h = tt
mapped f (Some a) p h = ap (option_map f) h

and_more : {A B : Type 0} (f g : A → Option B) (o p : Option A) → Kept o p → ((a : A) → Kept (f a) (g a)) → Kept (option_and_then f o) (option_and_then g p)
and_more f g None p h k = tt
and_more f g (Some a) p h k = subst (λ q. Kept (f a) (option_and_then g q)) (sym h) (k a)

module _ (p q : Parse Json) (keeps : (ts : List Token) → Kept (p ts) (q ts)) where
  item_turn : (more again : Parse Items) → ((ts : List Token) → Kept (more ts) (again ts)) → (ts : List Token) (o : Option (List Token)) → Kept (items_step p more ts o) (items_step q again ts o)
  item_turn more again h ts (Some r) = refl
  item_turn more again h ts None =
      and_more (λ x. parse_map (item x.0) (more x.1)) (λ x. parse_map (item x.0) (again x.1)) (p ts) (q ts) (keeps ts) (λ x. mapped (λ y. (item x.0 y.0, y.1)) (more x.1) (again x.1) (h x.1))

  Kept-items : (n : ℕ) (ts : List Token) → Kept (items p n ts) (items q n ts)
  unfolding items
  Kept-items zero ts = tt
  Kept-items (suc n) ts = item_turn (items p n) (items q n) (Kept-items n) ts (after_end_array ts)

  member_turn : (more again : Parse Members) → ((ts : List Token) → Kept (more ts) (again ts)) → (k : Option (List ℕ)) (ts : List Token) → Kept (members_step p more k ts) (members_step q again k ts)
  member_turn more again h None ts = refl
  member_turn more again h (Some k) ts =
      and_more (λ x. parse_map (member k x.0) (more x.1)) (λ x. parse_map (member k x.0) (again x.1)) (p ts) (q ts) (keeps ts) (λ x. mapped (λ y. (member k x.0 y.0, y.1)) (more x.1) (again x.1) (h x.1))

  key_turn : (more again : Parse Members) → ((ts : List Token) → Kept (more ts) (again ts)) → (o : Option (Option (List ℕ) × List Token))
      → Kept (option_and_then (λ x. members_step p more x.0 x.1) o) (option_and_then (λ x. members_step q again x.0 x.1) o)
  key_turn more again h None = tt
  key_turn more again h (Some x) = member_turn more again h x.0 x.1

  Kept-members : (n : ℕ) (ts : List Token) → Kept (members p n ts) (members q n ts)
  unfolding members
  Kept-members zero ts = tt
  Kept-members (suc n) ts = key_turn (members p n) (members q n) (Kept-members n) (read_key ts)

one_level : (a b : Parse Items) (o p : Parse Members) → ((ts : List Token) → Kept (a ts) (b ts)) → ((ts : List Token) → Kept (o ts) (p ts)) → (ts : List Token) → Kept (value_with a o ts) (value_with b p ts)
one_level a b o p h k [] = tt
one_level a b o p h k (Token.begin_object ∷ ts) = mapped (λ y. (object y.0, y.1)) (o ts) (p ts) (k ts)
one_level a b o p h k (Token.end_object ∷ ts) = tt
one_level a b o p h k (Token.begin_array ∷ ts) = mapped (λ y. (array y.0, y.1)) (a ts) (b ts) (h ts)
one_level a b o p h k (Token.end_array ∷ ts) = tt
one_level a b o p h k (Token.key s ∷ ts) = tt
one_level a b o p h k (Token.string s ∷ ts) = refl
one_level a b o p h k (Token.number s ∷ ts) = refl
one_level a b o p h k (Token.boolean t ∷ ts) = refl
one_level a b o p h k (Token.null ∷ ts) = refl
one_level a b o p h k (Token.bad ∷ ts) = tt

Kept-value : (d : ℕ) (ts : List Token) → Kept (value d ts) (value (suc d) ts)
unfolding value
Kept-value zero ts = one_level (λ us. None) (λ us. items (value zero) (length us) us) (λ us. None) (λ us. members (value zero) (length us) us) (λ us. tt) (λ us. tt) ts
Kept-value (suc d) ts =
    one_level (λ us. items (value d) (length us) us) (λ us. items (value (suc d)) (length us) us) (λ us. members (value d) (length us) us) (λ us. members (value (suc d)) (length us) us)
    (λ us. Kept-items (value d) (value (suc d)) (Kept-value d) (length us) us) (λ us. Kept-members (value d) (value (suc d)) (Kept-value d) (length us) us) ts

pub members_deeper : (d n : ℕ) (ts r : List Token) (ms : Members) → members (value d) n ts ≡ Some (ms, r) → members (value (suc d)) n ts ≡ Some (ms, r)
members_deeper d n ts r ms e = subst (λ o. Kept o (members (value (suc d)) n ts)) e (Kept-members (value d) (value (suc d)) (Kept-value d) n ts)

-- ---- more turns

same : {A : Type 0} (o : Option A) → Kept o o
same None = tt
same (Some a) = refl

turns : (p : Parse Json) (n m : ℕ) (ts : List Token) → n ≤ m → Kept (items p n ts) (items p m ts)
unfolding items
turns p zero m ts le = tt
turns p (suc n) zero ts le = absurd (omega (arith, le))
turns p (suc n) (suc m) ts le = item_turn p p (λ us. same (p us)) (items p n) (items p m) (λ us. turns p n m us (omega (arith, le))) ts (after_end_array ts)

pub items_further : (p : Parse Json) (n m : ℕ) (ts r : List Token) (js : Items) → n ≤ m → items p n ts ≡ Some (js, r) → items p m ts ≡ Some (js, r)
items_further p n m ts r js le e = subst (λ o. Kept o (items p m ts)) e (turns p n m ts le)
