-- The procedure of a text that a name refers to, or the only one.
use Rattle.std.proofs.Common.{◌≡◌, ◌∙◌, ℕ, zero, suc, List, [], ◌∷◌, Option, Some, None, refl, sym, subst, arith}
use Rattle.std.specs.Prelude.{Result, MatchOption, MatchResult}
use Rattle.std.specs.List.{AllZip, Contains}
use Rattle.std.specs.Option.{ok_or}
use Rattle.tl_lowering.specs.declared.program.Procedure.{Procedure}
use Rattle.tl_compiler.specs.declared.compiler.Compiled.{Compiled}
use Rattle.tl_compiler.specs.Compiled.{AreCompiled, IsCompiled, IsMeant, made_name, source_name}

contained : {A B : Type 0} (R : A → B → Type 0) (xs : List A) (ys : List B) (y : B) → AllZip R xs ys → Contains ys y → (x : A) × Contains xs x × R x y
contained R [] [] y h (k, inside, is) = absurd (omega (arith, inside))
contained R [] (b ∷ ys) y h c = absurd h
contained R (a ∷ xs) [] y h c = absurd h
contained R (a ∷ xs) (b ∷ ys) y h (zero, inside, is) = (a, (zero, omega arith, refl), subst (R a) is h.0)
contained R (a ∷ xs) (b ∷ ys) y h (suc k, inside, is) =
    let r = contained R xs ys y h.1 (k, omega (arith, inside), is) in
    let there = r.1.1 in
    (r.0, (suc r.1.0, omega (arith, there), r.1.2), r.2)

contained_left : {A B : Type 0} (R : A → B → Type 0) (xs : List A) (ys : List B) (x : A) → AllZip R xs ys → Contains xs x → (y : B) × Contains ys y × R x y
contained_left R [] [] x h (k, inside, is) = absurd (omega (arith, inside))
contained_left R [] (b ∷ ys) x h c = absurd h
contained_left R (a ∷ xs) [] x h c = absurd h
contained_left R (a ∷ xs) (b ∷ ys) x h (zero, inside, is) = (b, (zero, omega arith, refl), subst (λ z. R z b) is h.0)
contained_left R (a ∷ xs) (b ∷ ys) x h (suc k, inside, is) =
    let r = contained_left R xs ys x h.1 (k, omega (arith, inside), is) in
    let there = r.1.1 in
    (r.0, (suc r.1.0, omega (arith, there), r.1.2), r.2)

-- the source of the procedure that is meant
pub source_of : (sources : List Procedure) (made : List Compiled) (name : Option (List ℕ)) (one : Compiled) → AreCompiled sources made → IsMeant made_name name made one
    → (source : Procedure) × IsMeant source_name name sources source × IsCompiled source one
source_of sources made (Some name) one each meant =
    let r = contained IsCompiled sources made one each meant.0 in
    (r.0, (r.1, sym r.2.name ∙ meant.1), r.2)
source_of [] made None one each meant = absurd (subst (AreCompiled []) meant each)
source_of (s ∷ []) made None one each meant = (s, refl, (subst (AreCompiled (s ∷ [])) meant each).0)
source_of (s ∷ t ∷ sources) made None one each meant = absurd (subst (AreCompiled (s ∷ t ∷ sources)) meant each).1

-- if no compiled procedure is meant, no source is
pub no_source : (sources : List Procedure) (made : List Compiled) (name : Option (List ℕ)) → AreCompiled sources made → ((one : Compiled) → IsMeant made_name name made one → ⊥)
    → (source : Procedure) → IsMeant source_name name sources source → ⊥
no_source sources made (Some name) each none source meant =
    let r = contained_left IsCompiled sources made source each meant.0 in
    none r.0 (r.1, r.2.name ∙ meant.1)
no_source sources [] None each none source meant = subst (λ x. AreCompiled x []) meant each
no_source sources (one ∷ []) None each none source meant = none one refl
no_source sources (one ∷ two ∷ made) None each none source meant = (subst (λ x. AreCompiled x (one ∷ two ∷ made)) meant each).1

-- the one that was found, or that none is meant
pub answered : {A E : Type 0} (P : A → Type 0) (found : Option A) (e : E) (r : Result A E) → r ≡ ok_or found e → MatchOption found ((a : A) → P a → ⊥) P
    → MatchResult r P (λ x. (x ≡ e) × ((a : A) → P a → ⊥))
answered {A} P None e r is none = subst (λ z. MatchResult z P (λ x. (x ≡ e) × ((a : A) → P a → ⊥))) (sym is) (refl, none)
answered {A} P (Some a) e r is meant = subst (λ z. MatchResult z P (λ x. (x ≡ e) × ((a : A) → P a → ⊥))) (sym is) meant
