-- Named procedures: their numbers, and adding one.
use Rattle.std.proofs.Common.{◌≡◌, ℕ, suc, ◌+◌, ◌<◌, ◌≤◌, List, [], ◌∷◌, ◌++◌, length, map, position, cond, not, bytes_eq, refl, sym, ◌∙◌, ap, subst, arith, nat_lt, Option, Some, None, Bool, true, false, inl, inr, if◌then◌else◌, Result, Ok, Err, OnOk, OnErr}
use Rattle.std.proofs.lemmas.Bool.{cases_Bool, lt-ltb, ltb-true}
use Rattle.std.proofs.lemmas.Option.{none-some}
use Rattle.std.proofs.lemmas.List.{append-nil, append_assoc, length-append}
use Rattle.std.specs.List.{position_or_len}
use Rattle.std.specs.Map.{keys_of, lookup}
use Rattle.tl_instr.specs.Codes.{CodeValue}
use Rattle.tl_procedures.specs.Names.{Named, number_of, is_name, taken_by, naming_refusal, AreFreeAfter}
use Rattle.tl_procedures.specs.declared.fault.NamingFault.TheVariants as fault

module _ {K C : Type 0} (text : K → List ℕ) (code : C → CodeValue) where
  abbrev pub named : K × C → Named
  named e = record { name = text e.0; code = code e.1 }

  -- the number of a name among the procedures is the position of its key
  place : (name : List ℕ) (es : List (K × C)) → position_or_len (λ p. bytes_eq name p.name) (map named es) ≡ position_or_len (λ k. bytes_eq name (text k)) (keys_of es)
  place name [] = refl
  place name (e ∷ es) = ap (λ n. cond (not (bytes_eq name (text e.0))) (1 + n) 0) (place name es)

  many : (es : List (K × C)) → length (map named es) ≡ length (keys_of es)
  many [] = refl
  many (e ∷ es) = ap suc (many es)

  pub number-named : (name : List ℕ) (es : List (K × C)) → number_of (map named es) name ≡ position (λ k. bytes_eq name (text k)) (keys_of es)
  number-named name es = (λ i. cond (nat_lt (place name es i) (many es i)) (Some (place name es i)) None)

  -- a name without a number isn't among the keys
  none_below : (test : K → Bool) (es : List (K × C)) → (position_or_len test (keys_of es) < length (keys_of es) → ⊥) → lookup test es ≡ None
  none_below test [] past = refl
  none_below test (e ∷ es) past = elim (cases_Bool (test e.0)) [
    | inl h ↦ absurd (past (rw h (omega arith)))
    | inr h ↦ rw h (none_below test es (λ lt. past (rw h (omega (arith, lt)))))
  ]

  pub new_name : (name : List ℕ) (es : List (K × C)) → number_of (map named es) name ≡ None → lookup (λ k. bytes_eq name (text k)) es ≡ None
  new_name name es none = none_below (λ k. bytes_eq name (text k)) es (λ lt.
      let below = lt-ltb _ _ lt in
      let some = sym none ∙ number-named name es in
      none-some _ (some ∙ ap (λ b. cond b (Some (position_or_len (λ k. bytes_eq name (text k)) (keys_of es))) None) below))

-- an allowed name has no number yet, and the number of procedures is below the limit
module _ (ps : List Named) (name : List ℕ) where
  by_count : (b : Bool) → nat_lt (length ps) 256 ≡ b → (if b then None else Some fault.TooManyProcedures) ≡ None → length ps < 256
  by_count true h free = ltb-true (length ps) 256 h
  by_count false h free = absurd (none-some _ (sym free))

  by_number : (found : Option ℕ) → number_of ps name ≡ found → taken_by found (length ps) ≡ None → (number_of ps name ≡ None) × (length ps < 256)
  by_number (Some n) h free = absurd (none-some _ (sym free))
  by_number None h free = (h, by_count (nat_lt (length ps) 256) refl free)

  by_name : (b : Bool) → is_name name ≡ b → (if b then taken_by (number_of ps name) (length ps) else Some fault.BadName) ≡ None → (number_of ps name ≡ None) × (length ps < 256)
  by_name true h free = by_number (number_of ps name) refl free
  by_name false h free = absurd (none-some _ (sym free))

  pub free_number : naming_refusal ps name ≡ None → (number_of ps name ≡ None) × (length ps < 256)
  free_number free = by_name (is_name name) refl free

-- a procedure appended under an allowed name: each name was allowed when it was added
pub free_more : (before ps : List Named) (p : Named) → AreFreeAfter before ps → naming_refusal (before ++ ps) p.name ≡ None → AreFreeAfter before (ps ++ p ∷ [])
free_more before [] p h free = (ap (λ all. naming_refusal all p.name) (sym (append-nil before)) ∙ free, tt)
free_more before (q ∷ ps) p h free =
    (h.0, free_more (before ++ q ∷ []) ps p h.1 (ap (λ all. naming_refusal all p.name) (append_assoc before (q ∷ []) ps) ∙ free))

-- the procedures after one was appended or refused
pub kept_free : {A B E : Type 0} (result : Result A B) (old new : List E) (view : List E → List Named) (p : Named) → (length old ≤ 256) × AreFreeAfter [] (view old)
    → length (view old) ≡ length old → length (view new) ≡ length new → naming_refusal (view old) p.name ≡ None
    → OnOk result (view new ≡ view old ++ p ∷ []) → OnErr result (new ≡ old)
    → (length new ≤ 256) × AreFreeAfter [] (view new)
kept_free (Ok x) old new view p h same more free ok err =
    let long = ap length ok ∙ length-append (view old) (p ∷ []) in
    let few = free_number (view old) p.name free in
    (omega (arith, few.1), subst (AreFreeAfter []) (sym ok) (free_more [] (view old) p h.1 free))
kept_free (Err e) old new view p h same more free ok err = subst (λ es. (length es ≤ 256) × AreFreeAfter [] (view es)) (sym err) h
