-- A list denotes at most one chain, or has a fault.
use Rattle.std.proofs.Common.{ℕ, ◌≡◌, ◌≢◌, List, [], ◌∷◌, Option, Some, Result, Ok, Err, IfOk, IfErr, MatchResult, refl, ap₂, subst, inl, inr}
use Rattle.serde_json.specs.Data.{Data}
use Rattle.tl_trail.specs.declared.fault.TrailFault.{TrailFault}
use Rattle.tl_trail.specs.declared.fault.TrailFault.TheVariants.{Memory}
use Rattle.tl_trail.specs.Trails.{TrailValue}
use Rattle.tl_trail.specs.Reading.{form_of_data}
use Rattle.tl_trail.specs.Chains.{AreEach, IsFirstOf, IsChain, IsFaultOfChain}
use Rattle.tl_trail.proofs.OneReading.{one_trail, no_fault, only_memory}

one_list : (limit : ℕ) (ds : List Data) (ts us : List TrailValue) → AreEach limit ds ts → AreEach limit ds us → ts ≡ us
one_list limit [] [] [] a b = refl
one_list limit [] [] (u ∷ us) a b = absurd b
one_list limit [] (t ∷ ts) us a b = absurd a
one_list limit (d ∷ ds) [] us a b = absurd a
one_list limit (d ∷ ds) (t ∷ ts) [] a b = absurd b
one_list limit (d ∷ ds) (t ∷ ts) (u ∷ us) a b = ap₂ (λ x xs. x ∷ xs) (one_trail limit (form_of_data d) t u a.0 b.0) (one_list limit ds ts us a.1 b.1)

none_wrong : (limit : ℕ) (ds : List Data) (ts : List TrailValue) (e : TrailFault) → AreEach limit ds ts → ¬ IsFirstOf limit ds e
none_wrong limit [] ts e a wrong = wrong
none_wrong limit (d ∷ ds) [] e a wrong = a
none_wrong limit (d ∷ ds) (t ∷ ts) e a (inl here) = no_fault limit (form_of_data d) t e a.0 here
none_wrong limit (d ∷ ds) (t ∷ ts) e a (inr later) = none_wrong limit ds ts e a.1 later.2

same_items : (limit : ℕ) (found : Option (List Data)) (ts : List TrailValue) (a : IsChain limit found ts) (items : List Data) → found ≡ Some items → items ≡ a.items
same_items limit found ts a items is = let items_are = a.items_are in let same : items ≡ a.items = cc in same

one_chain : (limit : ℕ) (found : Option (List Data)) (ts us : List TrailValue) → IsChain limit found ts → IsChain limit found us → ts ≡ us
one_chain limit found ts us a b = one_list limit a.items ts us a.each (subst (λ l. AreEach limit l us) (same_items limit found ts a b.items b.items_are) b.each)

no_chain_fault : (limit : ℕ) (found : Option (List Data)) (ts : List TrailValue) (e : TrailFault) → IsChain limit found ts → ¬ IsFaultOfChain limit found e
no_chain_fault limit found ts e a (inl (is, none)) = let items_are = a.items_are in absurd cc
no_chain_fault limit found ts e a (inr (items, is, wrong)) = none_wrong limit a.items ts e a.each (subst (λ l. IsFirstOf limit l e) (same_items limit found ts a items is) wrong)

-- reading returns that chain or a lack of memory
pub only_chain : (limit : ℕ) → {X : Type 0} (trails : X → List TrailValue) (found : Option (List Data)) (r : Result X TrailFault) (ts : List TrailValue) → IfOk r (λ x. IsChain limit found (trails x))
    → IfErr r (λ e. e ≢ Memory → IsFaultOfChain limit found e) → IsChain limit found ts → MatchResult r (λ x. trails x ≡ ts) (λ e. e ≡ Memory)
only_chain limit trails found (Ok x) ts ok fault a = one_chain limit found (trails x) ts ok a
only_chain limit trails found (Err e) ts ok fault a = only_memory e (λ other. no_chain_fault limit found ts e a (fault other))
