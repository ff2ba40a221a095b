-- The number of a procedure by its own name.
use Rattle.std.proofs.Common.{◌≡◌, ℕ, zero, suc, ◌+◌, ◌<◌, ◌≤◌, Bool, true, false, List, [], ◌∷◌, ◌++◌, length, get_or, refl, sym, ap, ◌∙◌, arith, Option, Some, None, if◌then◌else◌}
use Rattle.std.proofs.lemmas.Grind.{common_steps}
use Rattle.std.specs.Prelude.{position, not}
use Rattle.std.specs.List.{position_or_len}
use Rattle.std.proofs.lemmas.List.{append_assoc, length-append, get_or_append_left}
use Rattle.std.proofs.lemmas.List.Sums.{position_or_len_is, fails_before_first, prefix_len-le-length}
use Rattle.std.proofs.Math.Seq.{get_or-append_seam}
use Rattle.std.specs.Str.{bytes_eq}
use Rattle.std.proofs.lemmas.Slice.Eq.{bytes_eq-Decides}
use Rattle.tl_procedures.specs.declared.fault.NamingFault.TheVariants.{BadName}
use Rattle.tl_procedures.specs.Names.{Named, no_procedure, number_of, is_name, taken_by, AreFreeAfter}

unnumbered : (b : Bool) (o : Option ℕ) (n : ℕ) → (if b then taken_by o n else Some BadName) ≡ None → o ≡ None
unnumbered true (Some k) n h = absurd cc
unnumbered true None n h = refl
unnumbered false o n h = absurd cc

first_there : {X : Type 0} (p : X → Bool) (before rest : List X) (q : X) → position p before ≡ None → p q ≡ true → position p (before ++ q ∷ rest) ≡ Some (length before)
first_there p before rest q none passes =
    let long = length-append before (q ∷ rest) in
    let most : position_or_len p before ≤ length before = prefix_len-le-length (λ x. not (p x)) before in
    let all : position_or_len p before ≡ length before = grind (arith, common_steps, most) in
    let here : length before < length (before ++ q ∷ rest) = omega arith in
    let first : position_or_len p (before ++ q ∷ rest) ≡ length before = position_or_len_is p (before ++ q ∷ rest) (length before) q (omega arith)
    (λ k lt. ap p (get_or_append_left before (q ∷ rest) q k lt) ∙ fails_before_first p before k q (omega arith))
    (λ lt. ap p (get_or-append_seam before q rest q) ∙ passes) in
    grind (arith, common_steps)

pub own_number : (before qs : List Named) (p : ℕ) → AreFreeAfter before qs → p < length qs → number_of (before ++ qs) (get_or qs p no_procedure).name ≡ Some (length before + p)
own_number before [] p free less = absurd (omega arith)
own_number before (q ∷ qs) zero free less =
    let none = unnumbered (is_name q.name) (number_of before q.name) (length before) free.0 in
    let here : length before ≡ length before + 0 = omega arith in
    first_there (λ (x : Named). bytes_eq q.name x.name) before qs q none ((bytes_eq-Decides q.name q.name).1 refl) ∙ ap Some here
own_number before (q ∷ qs) (suc p) free less =
    let next : length (before ++ q ∷ []) + p ≡ length before + suc p = (let long = length-append before (q ∷ []) in omega arith) in
    ap (λ l. number_of l (get_or qs p no_procedure).name) (sym (append_assoc before (q ∷ []) qs)) ∙ own_number (before ++ q ∷ []) qs p free.1 (omega arith) ∙ ap Some next
