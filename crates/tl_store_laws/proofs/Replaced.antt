-- Procedures that take the place of others, as the latest of their names.
use Rattle.std.proofs.Common.{◌≡◌, ◌≢◌, ℕ, ◌+◌, ◌<◌, Bool, true, false, List, [], ◌∷◌, ◌++◌, length, map, get_or, refl, sym, ap, ◌∙◌, subst, arith, Option, Some, None, cond, not}
use Rattle.std.specs.Prelude.{All, position}
use Rattle.std.specs.List.{position_or_len}
use Rattle.std.proofs.lemmas.List.{length-map}
use Rattle.std.proofs.lemmas.List.Elements.{All-head, All-tail, All-nil, All-cons}
use Rattle.std.proofs.lemmas.Grind.{common_steps}
use Rattle.std.specs.Str.{bytes_eq}
use Rattle.tl_procedures.specs.Names.{Named, number_of, with_code, replaced, put, put_at, latest, AreKnown}
use Rattle.tl_store_laws.proofs.Put.{latest_joined}

place_named : (p : Named) (name : List ℕ) (qs : List Named) → position_or_len (λ (q : Named). bytes_eq name q.name) (map (with_code p) qs) ≡ position_or_len (λ (q : Named). bytes_eq name q.name) qs
place_named p name [] = refl
place_named p name (q ∷ qs) = ap (λ n. cond (not (bytes_eq name q.name)) (1 + n) 0) (place_named p name qs)

-- names stay where a code is replaced
number_named : (p : Named) (name : List ℕ) (qs : List Named) → number_of (map (with_code p) qs) name ≡ number_of qs name
number_named p name qs =
    let place = place_named p name qs in
    let long = length-map qs (with_code p) in
    grind (arith, common_steps, place, long)

pub known_named : (p : Named) (qs others : List Named) → AreKnown qs others → AreKnown (map (with_code p) qs) others
known_named p qs [] known = All-nil (λ (o : Named). number_of (map (with_code p) qs) o.name ≢ None)
known_named p qs (o ∷ others) known = All-cons (λ (o : Named). number_of (map (with_code p) qs) o.name ≢ None) o others
    (λ none. All-head (λ (o : Named). number_of qs o.name ≢ None) o others known (sym (number_named p o.name qs) ∙ none))
    (known_named p qs others (All-tail (λ (o : Named). number_of qs o.name ≢ None) o others known))

pub put_known : (found : Option ℕ) (qs : List Named) (p : Named) → found ≢ None → put_at found qs p ≡ map (with_code p) qs
put_known (Some n) qs p known = refl
put_known None qs p known = absurd (known refl)

pub latest_known : (before others : List Named) → AreKnown before others → latest before others ≡ replaced before others
latest_known before [] known = refl
latest_known before (o ∷ others) known =
    ap (λ l. latest l others) (put_known (number_of before o.name) before o (All-head (λ (o : Named). number_of before o.name ≢ None) o others known))
    ∙ latest_known (map (with_code o) before) others (known_named o before others (All-tail (λ (o : Named). number_of before o.name ≢ None) o others known))

-- put behind all others, they take the places of those with their names
pub latest_replaced : (all others : List Named) → AreKnown (latest [] all) others → latest [] (all ++ others) ≡ replaced (latest [] all) others
latest_replaced all others known = latest_joined [] all others ∙ latest_known (latest [] all) others known
