-- What a session or a visitor gains in one step, and in several.
use Rattle.std.proofs.Common.{◌≡◌, ◌≤◌, ◌∙◌, ap, ap₂, refl, sym, append_assoc, append-nil, arith}
use Rattle.std.specs.Prelude.{ℕ, ◌+◌, List, All, map, [], ◌∷◌, ◌++◌, get_or}
use Rattle.std.proofs.lemmas.List.Elements.{All-nil, All-cons, All-append, All-map}
use Rattle.tl_workers.specs.declared.session.Did.{Did}
use Rattle.tl_workers.specs.declared.session.Did.TheVariants.{Asked, Got}
use Rattle.tl_workers.specs.Kept.{SessionValue, Gains}
use Rattle.tl_server.specs.Outcomes.{epoch_of, later_did, HasKept, Share, gained_by, IsOfSessions, GoesOnFrom}

-- a session that does nothing stays the same
pub gains_nothing : (s : SessionValue) → Gains s s []
gains_nothing s = record { number = refl; kept = sym (append-nil s.kept) }

-- the entries of two steps are added one after the other
pub gains_both : (a b c : SessionValue) (xs ys : List Did) → Gains a b xs → Gains b c ys → Gains a c (xs ++ ys)
gains_both a b c xs ys h k = record { number = k.number ∙ h.number; kept = k.kept ∙ ap (λ zs. zs ++ ys) h.kept ∙ append_assoc a.kept xs ys }

-- ---- a visitor of a relay

pub goes_on_nothing : (n : ℕ) → GoesOnFrom n n []
goes_on_nothing n = (omega arith, All-nil (λ d. n ≤ epoch_of d), ([], All-nil (λ s. HasKept s.own), refl))

all_later : (a b : ℕ) (ys : List Did) → a ≤ b → All (λ d. b ≤ epoch_of d) ys → All (λ d. a ≤ epoch_of d) ys
all_later a b ys h k = λ i d lt. let q = k i d lt in omega (arith, h, q)

-- what was gained by the lines of both lists
gained_both : (ss ts : List Share) → gained_by (ss ++ ts) ≡ gained_by ss ++ gained_by ts
gained_both [] ts = refl
gained_both (s ∷ ss) ts = ap (λ xs. map (later_did s.base) s.own ++ xs) (gained_both ss ts) ∙ sym (append_assoc (map (later_did s.base) s.own) (gained_by ss) (gained_by ts))

of_sessions_both : (xs ys : List Did) → IsOfSessions xs → IsOfSessions ys → IsOfSessions (xs ++ ys)
of_sessions_both xs ys h k =
    (h.0 ++ k.0, All-append (λ s. HasKept s.own) h.0 k.0 h.1 k.1, ap₂ (λ us vs. us ++ vs) h.2 k.2 ∙ sym (gained_both h.0 k.0))

pub goes_on_both : (a b c : ℕ) (xs ys : List Did) → GoesOnFrom a b xs → GoesOnFrom b c ys → GoesOnFrom a c (xs ++ ys)
goes_on_both a b c xs ys h k =
    (omega (arith, h.0, k.0), All-append (λ d. a ≤ epoch_of d) xs ys h.1 (all_later a b ys h.0 k.1), of_sessions_both xs ys h.2 k.2)

-- what one line gained
pub of_session : (base : ℕ) (own : List Did) → HasKept own → IsOfSessions (map (later_did base) own)
of_session base own kept =
    (record { base = base; own = own } ∷ [], All-cons (λ s. HasKept s.own) (record { base = base; own = own }) [] kept (All-nil (λ s. HasKept s.own)), sym (append-nil (map (later_did base) own)))

pub seals_from : (a b : ℕ) (xs : List Did) (n : ℕ) → GoesOnFrom a b xs → b ≤ n → a ≤ n
seals_from a b xs n h k = omega (arith, h.0, k)

later_one : (a base : ℕ) (d : Did) → a ≤ base → a ≤ epoch_of (later_did base d)
later_one a base (Asked x) h = omega (arith, h)
later_one a base (Got x) h = omega (arith, h)

-- what is done in an engine that has `base` epochs before it is in no epoch before those
pub later_all : (a base : ℕ) (own : List Did) → a ≤ base → All (λ d. a ≤ epoch_of d) (map (later_did base) own)
later_all a base own h = All-map (λ d. a ≤ epoch_of d) (later_did base) own (λ i d lt. later_one a base (get_or own i d) h)

-- with no epochs before the engine, the entries don't change
none_before : (d : Did) → later_did 0 d ≡ d
none_before (Asked x) = let same : 0 + x.epoch ≡ x.epoch = omega arith in ap (λ (e : ℕ). Asked (record x { epoch = e })) same
none_before (Got x) = let same : 0 + x.epoch ≡ x.epoch = omega arith in ap (λ (e : ℕ). Got (record x { epoch = e })) same

pub later_none : (own : List Did) → map (later_did 0) own ≡ own
later_none [] = refl
later_none (d ∷ own) = ap (λ x. x ∷ map (later_did 0) own) (none_before d) ∙ ap (λ ys. d ∷ ys) (later_none own)
