-- A text denotes at most one trail, or has a fault.
use Rattle.std.proofs.Common.{◌≡◌, ◌≢◌, ℕ, List, [], Result, Ok, Err, Some, IfOk, IfErr, MatchResult, Option, refl, sym, ap, ◌∙◌, subst, inl, inr}
use Rattle.tl_tree.specs.Trees.{TreeValue}
use Rattle.tl_tree.specs.Reading.{tree_from}
use Rattle.tl_procedures.specs.Names.{Named}
use Rattle.tl_trail.specs.declared.fault.TrailFault.{TrailFault}
use Rattle.tl_trail.specs.declared.fault.TrailFault.TheVariants.{NotTrail, Tree, Procedure, NoProcedure, WrongArgs, TooManyCalls, Memory}
use Rattle.tl_trail.specs.Trails.{TrailValue}
use Rattle.tl_json.specs.Registering.{TakenUp}
use Rattle.tl_json.proofs.Registered.{one_taking, none_unfit}
use Rattle.tl_trail.specs.Reading.{TrailForm, trail_of_form, IsFound, IsFormFault, IsFaultFound, IsTrailText, IsFirstTrailFault, form_in}

-- ---- what was found

same_form : (limit : ℕ) (found : Option TrailForm) (t : TrailValue) (a : IsFound limit found t) (form : TrailForm) → found ≡ Some form → form ≡ a.form
same_form limit found t a form is = let form_is = a.form_is in let same : form ≡ a.form = cc in same

same_tree : (limit : ℕ) (form : TrailForm) (one other : TreeValue) → tree_from limit (Some form.tree) ≡ Ok one → tree_from limit (Some form.tree) ≡ Ok other → one ≡ other
same_tree limit form one other a b = let same : one ≡ other = cc in same

-- a form denotes at most one trail
one_standing : (form : TrailForm) (tree : TreeValue) (ps qs : List Named) (r : Result TrailValue TrailFault) (t : TrailValue) → TakenUp [] form.procedures ps → TakenUp [] form.procedures qs
    → trail_of_form tree ps form ≡ r → trail_of_form tree qs form ≡ Ok t → r ≡ Ok t
one_standing form tree ps qs r t a b is same =
    let procedures : ps ≡ qs = one_taking [] form.procedures ps qs a b in
    sym is ∙ ap (λ x. trail_of_form tree x form) procedures ∙ same

pub one_trail : (limit : ℕ) (found : Option TrailForm) (t u : TrailValue) → IsFound limit found t → IsFound limit found u → t ≡ u
one_trail limit found t u a b =
    let form : b.form ≡ a.form = same_form limit found t a b.form b.form_is in
    let tree_is : tree_from limit (Some a.form.tree) ≡ Ok b.tree = subst (λ (f : TrailForm). tree_from limit (Some f.tree) ≡ Ok b.tree) form b.tree_is in
    let tree : b.tree ≡ a.tree = same_tree limit a.form b.tree a.tree tree_is a.tree_is in
    let taken : TakenUp [] a.form.procedures u.procedures = subst (λ (f : TrailForm). TakenUp [] f.procedures u.procedures) form b.taken_up in
    let stands : trail_of_form a.tree u.procedures a.form ≡ Ok u = (λ i. trail_of_form (sym tree i) u.procedures (sym form i)) ∙ b.same in
    let same : Ok t ≡ Ok u = one_standing a.form a.tree t.procedures u.procedures (Ok t) u a.taken_up taken a.same stands in
    cc

no_form_fault : (limit : ℕ) (form : TrailForm) (tree : TreeValue) (t : TrailValue) (e : TrailFault) → tree_from limit (Some form.tree) ≡ Ok tree → TakenUp [] form.procedures t.procedures → trail_of_form tree t.procedures form ≡ Ok t → ¬ IsFormFault limit form e
no_form_fault limit form tree t e tree_is taken same (inl (f, is, wrong)) = absurd cc
no_form_fault limit form tree t e tree_is taken same (inr (other, other_is, inl (f, is, wrong))) = none_unfit [] form.procedures t.procedures f taken wrong
no_form_fault limit form tree t e tree_is taken same (inr (other, other_is, inr (procedures, again, wrong))) =
    let trees : other ≡ tree = same_tree limit form other tree other_is tree_is in
    let here : trail_of_form tree procedures form ≡ Err e = ap (λ x. trail_of_form x procedures form) (sym trees) ∙ wrong in
    let both_are : Err e ≡ Ok t = one_standing form tree procedures t.procedures (Err e) t again taken here same in
    absurd cc

pub no_fault : (limit : ℕ) (found : Option TrailForm) (t : TrailValue) (e : TrailFault) → IsFound limit found t → ¬ IsFaultFound limit found e
no_fault limit found t e a (inl (is, none)) = let form_is = a.form_is in absurd cc
no_fault limit found t e a (inr (form, is, wrong)) =
    let same : form ≡ a.form = same_form limit found t a form is in
    no_form_fault limit a.form a.tree t e a.tree_is a.taken_up a.same (subst (λ f. IsFormFault limit f e) same wrong)

pub only_memory : (e : TrailFault) → (e ≢ Memory → ⊥) → e ≡ Memory
only_memory NotTrail h = absurd (h (λ e. cc))
only_memory (Tree f) h = absurd (h (λ e. cc))
only_memory (Procedure f) h = absurd (h (λ e. cc))
only_memory NoProcedure h = absurd (h (λ e. cc))
only_memory WrongArgs h = absurd (h (λ e. cc))
only_memory TooManyCalls h = absurd (h (λ e. cc))
only_memory Memory h = refl

-- ---- texts

-- reading returns the text's trail or a lack of memory
pub only_one : (limit : ℕ) (text : List ℕ) (r : Result TrailValue TrailFault) (t : TrailValue) → IfOk r (λ u. IsTrailText limit text u) → IfErr r (λ e. e ≢ Memory → IsFirstTrailFault limit text e) → IsTrailText limit text t
    → MatchResult r (λ u. u ≡ t) (λ e. e ≡ Memory)
only_one limit text (Ok u) t ok fault a = one_trail limit (form_in text) u t ok a
only_one limit text (Err e) t ok fault a = only_memory e (λ other. no_fault limit (form_in text) t e a (fault other))
