-- Properties of a call's actions are properties of those that are shared.
use Rattle.std.proofs.Common.{◌≡◌, ℕ, ◌==◌, ◌||◌, ◌&&◌, not, List, [], ◌∷◌, refl, sym, ap, ◌∙◌}
use Rattle.std.specs.Prelude.{if◌then◌else◌}
use Rattle.tl_tree.specs.Records.{Record}
use Rattle.tl_tree.specs.Shape.{parent}
use Rattle.tl_tree_locking.specs.declared.action.Action.{Action}
use Rattle.tl_tree_locking.specs.declared.action.Action.TheVariants as A
use Rattle.tl_tree_locking.specs.Actions.{locked, held, locked_any, has_ended, left_in, shared_actions, locks_and_frees, Permitted, EachPermitted}

pub locked-shared_actions : (done : List Action) (x : ℕ) → locked (shared_actions done) x ≡ locked done x
locked-shared_actions [] x = refl
locked-shared_actions (A.Lock y found ∷ done) x = ap (λ b. (y == x) || b) (locked-shared_actions done x)
locked-shared_actions (A.Read y field n ∷ done) x = locked-shared_actions done x
locked-shared_actions (A.Write y field n ∷ done) x = locked-shared_actions done x
locked-shared_actions (A.Free y left ∷ done) x = locked-shared_actions done x
locked-shared_actions (A.Emit n ∷ done) x = locked-shared_actions done x
locked-shared_actions (A.End ∷ done) x = locked-shared_actions done x
locked-shared_actions (A.Plain ∷ done) x = locked-shared_actions done x

pub left_in-shared_actions : (done : List Action) (x : ℕ) (r : Record) → left_in (shared_actions done) x r ≡ left_in done x r
left_in-shared_actions [] x r = refl
left_in-shared_actions (A.Lock y found ∷ done) x r = left_in-shared_actions done x r
left_in-shared_actions (A.Read y field n ∷ done) x r = left_in-shared_actions done x r
left_in-shared_actions (A.Write y field n ∷ done) x r = left_in-shared_actions done x r
left_in-shared_actions (A.Free y left ∷ done) x r = ap (λ s. if y == x then left else s) (left_in-shared_actions done x r)
left_in-shared_actions (A.Emit n ∷ done) x r = left_in-shared_actions done x r
left_in-shared_actions (A.End ∷ done) x r = left_in-shared_actions done x r
left_in-shared_actions (A.Plain ∷ done) x r = left_in-shared_actions done x r

pub held-shared_actions : (done : List Action) (x : ℕ) → held (shared_actions done) x ≡ held done x
held-shared_actions [] x = refl
held-shared_actions (A.Lock y found ∷ done) x = ap (λ b. (y == x) || b) (held-shared_actions done x)
held-shared_actions (A.Read y field n ∷ done) x = held-shared_actions done x
held-shared_actions (A.Write y field n ∷ done) x = held-shared_actions done x
held-shared_actions (A.Free y left ∷ done) x = ap (λ b. not (y == x) && b) (held-shared_actions done x)
held-shared_actions (A.Emit n ∷ done) x = held-shared_actions done x
held-shared_actions (A.End ∷ done) x = held-shared_actions done x
held-shared_actions (A.Plain ∷ done) x = held-shared_actions done x

pub locked_any-shared_actions : (done : List Action) → locked_any (shared_actions done) ≡ locked_any done
locked_any-shared_actions [] = refl
locked_any-shared_actions (A.Lock y found ∷ done) = refl
locked_any-shared_actions (A.Read y field n ∷ done) = locked_any-shared_actions done
locked_any-shared_actions (A.Write y field n ∷ done) = locked_any-shared_actions done
locked_any-shared_actions (A.Free y left ∷ done) = locked_any-shared_actions done
locked_any-shared_actions (A.Emit n ∷ done) = locked_any-shared_actions done
locked_any-shared_actions (A.End ∷ done) = locked_any-shared_actions done
locked_any-shared_actions (A.Plain ∷ done) = locked_any-shared_actions done

pub has_ended-shared_actions : (done : List Action) → has_ended (shared_actions done) ≡ has_ended done
has_ended-shared_actions [] = refl
has_ended-shared_actions (A.Lock y found ∷ done) = has_ended-shared_actions done
has_ended-shared_actions (A.Read y field n ∷ done) = has_ended-shared_actions done
has_ended-shared_actions (A.Write y field n ∷ done) = has_ended-shared_actions done
has_ended-shared_actions (A.Free y left ∷ done) = has_ended-shared_actions done
has_ended-shared_actions (A.Emit n ∷ done) = has_ended-shared_actions done
has_ended-shared_actions (A.End ∷ done) = refl
has_ended-shared_actions (A.Plain ∷ done) = has_ended-shared_actions done

-- the locks and frees of the shared actions are all locks and frees
pub locks_and_frees-shared_actions : (done : List Action) → locks_and_frees (shared_actions done) ≡ locks_and_frees done
locks_and_frees-shared_actions [] = refl
locks_and_frees-shared_actions (A.Lock y found ∷ done) = ap (λ z. A.Lock y found ∷ z) (locks_and_frees-shared_actions done)
locks_and_frees-shared_actions (A.Read y field n ∷ done) = locks_and_frees-shared_actions done
locks_and_frees-shared_actions (A.Write y field n ∷ done) = locks_and_frees-shared_actions done
locks_and_frees-shared_actions (A.Free y left ∷ done) = ap (λ z. A.Free y left ∷ z) (locks_and_frees-shared_actions done)
locks_and_frees-shared_actions (A.Emit n ∷ done) = locks_and_frees-shared_actions done
locks_and_frees-shared_actions (A.End ∷ done) = locks_and_frees-shared_actions done
locks_and_frees-shared_actions (A.Plain ∷ done) = locks_and_frees-shared_actions done

-- an action that is permitted after some actions is permitted after the shared ones of them
pub permitted_shared : (parents : List ℕ) (done : List Action) (a : Action) → Permitted parents done a → Permitted parents (shared_actions done) a
permitted_shared parents done (A.Lock x found) p = (locked-shared_actions done x ∙ p.0, λ any. held-shared_actions done (parent parents x) ∙ p.1 (sym (locked_any-shared_actions done) ∙ any))
permitted_shared parents done (A.Read x f n) p = held-shared_actions done x ∙ p
permitted_shared parents done (A.Write x f n) p = held-shared_actions done x ∙ p
permitted_shared parents done (A.Free x left) p = held-shared_actions done x ∙ p
permitted_shared parents done (A.Emit n) p = tt
permitted_shared parents done A.End p = λ x. held-shared_actions done x ∙ p x
permitted_shared parents done A.Plain p = tt

-- the shared ones of permitted actions are permitted
pub obeys_shared : (parents : List ℕ) (done : List Action) → EachPermitted parents done → EachPermitted parents (shared_actions done)
obeys_shared parents [] h = tt
obeys_shared parents (A.Lock x found ∷ done) h = ((locked-shared_actions done x ∙ h.0.0, λ any. held-shared_actions done (parent parents x) ∙ h.0.1 (sym (locked_any-shared_actions done) ∙ any)), has_ended-shared_actions done ∙ h.1, obeys_shared parents done h.2)
obeys_shared parents (A.Read y field n ∷ done) h = obeys_shared parents done h.2
obeys_shared parents (A.Write y field n ∷ done) h = obeys_shared parents done h.2
obeys_shared parents (A.Free y left ∷ done) h = (held-shared_actions done y ∙ h.0, has_ended-shared_actions done ∙ h.1, obeys_shared parents done h.2)
obeys_shared parents (A.Emit n ∷ done) h = obeys_shared parents done h.2
obeys_shared parents (A.End ∷ done) h = (λ x. held-shared_actions done x ∙ h.0 x, has_ended-shared_actions done ∙ h.1, obeys_shared parents done h.2)
obeys_shared parents (A.Plain ∷ done) h = obeys_shared parents done h.2
