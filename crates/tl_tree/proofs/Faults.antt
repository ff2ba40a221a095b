-- Answers that are exact except for refused memory.
use Rattle.std.proofs.Common.{◌≡◌, ◌≢◌, Result, Ok, Err, IsErr, MatchResult, IfOk, IfErr, refl}
use Rattle.std.proofs.lemmas.Result.{IfErr-weaker, IfOk-from_err, MatchResult-from_both}
use Rattle.tl_tree.specs.declared.fault.TreeFault.{TreeFault}
use Rattle.tl_tree.specs.declared.fault.TreeFault.TheVariants.{Empty, TooMany, BadRoot, BadParent, WrongCount, NotTree, Memory}

pub only_memory : (e : TreeFault) → (e ≢ Memory → ⊥) → e ≡ Memory
only_memory Empty h = absurd (h (λ e. cc))
only_memory TooMany h = absurd (h (λ e. cc))
only_memory BadRoot h = absurd (h (λ e. cc))
only_memory (BadParent x) h = absurd (h (λ e. cc))
only_memory WrongCount h = absurd (h (λ e. cc))
only_memory NotTree h = absurd (h (λ e. cc))
only_memory Memory h = refl

-- if the specification gives a result, a failing answer can only be for lack of memory
pub memory_from_fault : {X Y : Type 0} (r : Result X TreeFault) (P : X → Type 0) (wanted : Result Y TreeFault) (y : Y) → IsErr r → IfErr r (λ e. e ≢ Memory → wanted ≡ Err e) → wanted ≡ Ok y → MatchResult r P (λ e. e ≡ Memory)
memory_from_fault r P wanted y is_err fault is =
    MatchResult-from_both r P (λ e. e ≡ Memory) (IfOk-from_err r P is_err) (IfErr-weaker r _ _ (λ e only. only_memory e (λ other. (let bad = only other in cc))) fault)

-- if the specification gives a result, the answer is that result or a lack of memory
pub taken_from_exact : {Y : Type 0} (r : Result Y TreeFault) (y : Y) (wanted : Result Y TreeFault) → wanted ≡ Ok y → IfOk r (λ x. wanted ≡ Ok x) → IfErr r (λ e. e ≢ Memory → wanted ≡ Err e)
    → MatchResult r (λ x. x ≡ y) (λ e. e ≡ Memory)
taken_from_exact (Ok x) y wanted is ok fault = cc
taken_from_exact (Err e) y wanted is ok fault = only_memory e (λ other. (let bad = fault other in cc))
