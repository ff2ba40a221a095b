-- Procedures that are put after others.
use Rattle.std.proofs.Common.{◌≡◌, ℕ, ◌<◌, Bool, true, false, List, [], ◌∷◌, ◌++◌, length, get_or, refl, sym, ap, ◌∙◌, subst, arith, Option, Some, None, if◌then◌else◌}
use Rattle.std.proofs.lemmas.Grind.{common_steps}
use Rattle.std.specs.Prelude.{All, position}
use Rattle.std.specs.List.{position_or_len}
use Rattle.std.proofs.lemmas.List.{append-nil, append_assoc, length-append, get_or_append_left}
use Rattle.std.proofs.lemmas.List.Elements.{All-append}
use Rattle.std.proofs.lemmas.List.Quantifiers.{position-Some}
use Rattle.std.proofs.lemmas.List.Sums.{position_or_len_is}
use Rattle.std.specs.Str.{bytes_eq}
use Rattle.tl_procedures.specs.declared.fault.NamingFault.TheVariants.{BadName}
use Rattle.tl_procedures.specs.Names.{Named, number_of, is_name, taken_by, naming_refusal, AreFreeAfter, put, put_at, latest, MayPut, MayPutAll}

pub latest_joined : (before ps qs : List Named) → latest before (ps ++ qs) ≡ latest (latest before ps) qs
latest_joined before [] qs = refl
latest_joined before (p ∷ ps) qs = latest_joined (put before p) ps qs

pub may_joined : (before ps qs : List Named) → MayPutAll before ps → MayPutAll (latest before ps) qs → MayPutAll before (ps ++ qs)
may_joined before [] qs a b = b
may_joined before (p ∷ ps) qs a b = (a.0, may_joined (put before p) ps qs a.1 b)

unnumbered : (b : Bool) (o : Option ℕ) (n : ℕ) → (if b then taken_by o n else Some BadName) ≡ None → o ≡ None
unnumbered true (Some k) n h = absurd cc
unnumbered true None n h = refl
unnumbered false o n h = absurd cc

-- a procedure whose name is free comes last
free_put : (before : List Named) (p : Named) → naming_refusal before p.name ≡ None → put before p ≡ before ++ p ∷ []
free_put before p free = ap (λ o. put_at o before p) (unnumbered (is_name p.name) (number_of before p.name) (length before) free)

pub latest_free : (before qs : List Named) → AreFreeAfter before qs → latest before qs ≡ before ++ qs
latest_free before [] free = sym (append-nil before)
latest_free before (q ∷ qs) free = ap (λ l. latest l qs) (free_put before q free.0) ∙ latest_free (before ++ q ∷ []) qs free.1 ∙ append_assoc before (q ∷ []) qs

pub may_free : (before qs : List Named) → AreFreeAfter before qs → MayPutAll before qs
may_free before [] free = tt
may_free before (q ∷ qs) free = ((λ none. free.0), subst (λ l. MayPutAll l qs) (sym (free_put before q free.0)) (may_free (before ++ q ∷ []) qs free.1))

pub free_behind : (before ps qs : List Named) → AreFreeAfter before (ps ++ qs) → AreFreeAfter (before ++ ps) qs
free_behind before [] qs free = subst (λ l. AreFreeAfter l qs) (sym (append-nil before)) free
free_behind before (p ∷ ps) qs free = subst (λ l. AreFreeAfter l qs) (append_assoc before (p ∷ []) ps) (free_behind (before ++ p ∷ []) ps qs free.1)

-- ---- the first item that passes stays the first

pub position_stays : {X : Type 0} (p : X → Bool) (xs ys : List X) (i : ℕ) (d : X) → position p xs ≡ Some i → position p (xs ++ ys) ≡ Some i
position_stays p xs ys i d at =
    let was = position-Some p xs i d at in
    let inside : i < length xs = was.0 in
    let long = length-append xs ys in
    let here : i < length (xs ++ ys) = omega arith in
    let first : position_or_len p (xs ++ ys) ≡ i = position_or_len_is p (xs ++ ys) i d (omega arith)
    (λ k lt. ap p (get_or_append_left xs ys d k (omega arith)) ∙ was.2 k lt)
    (λ lt. ap p (get_or_append_left xs ys d i inside) ∙ was.1) in
    grind (arith, common_steps)
