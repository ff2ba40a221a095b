-- What each call of a world has done after a step or an admission.
use Rattle.std.proofs.Common.{◌≡◌, ◌≢◌, ℕ, suc, ◌<◌, [], ◌∷◌, ◌++◌, take, refl, sym, ap, ◌∙◌, arith}
use Rattle.std.proofs.lemmas.Bool.{ne_eqb, eq-eqb}
use Rattle.tl_tree.specs.Records.{Records}
use Rattle.tl_tree_locking.specs.declared.action.Action.{Action}
use Rattle.tl_tree_locking.specs.Actions.{with_found}
use Rattle.tl_tree_locking.specs.History.{admits}
use Rattle.tl_tree_locking.specs.Alone.{Outcome}
use Rattle.tl_tree_locking.specs.World.{World, IsSound, MayTake, alone_of, as_found, past_after, done_of, after_step, after_admission}
use Rattle.tl_tree_locking.proofs.ListPlaces.{earliest_first}
use Rattle.tl_tree_locking.proofs.ObeysByPlaces.{taken-earliest}
use Rattle.tl_tree_locking.proofs.WorldSteps.{taken_on, part_of-past_after}

-- a step appends its action to what its call has done
pub done_own : (w : World) (c : ℕ) (next : Action) → IsSound w → MayTake w c next → done_of (after_step w c next) c ≡ done_of w c ++ as_found w next ∷ []
done_own w c next sound may =
    let a = as_found w next in
    let self = eq-eqb c c refl in
    let acts = (alone_of (w.meanings c) w.opening w.past c).actions in
    let acts2 = (alone_of (w.meanings c) w.opening (past_after c a w.past) c).actions in
    rw self (sym (taken-earliest (suc (w.counts c)) acts2 []) ∙ ap earliest_first (taken_on w c next (sound.meanings c may.is_open.0) sound.size may) ∙ ap (λ z. z ++ a ∷ []) (taken-earliest (w.counts c) acts []))

-- a step doesn't change what other calls have done
pub done_others : (w : World) (c d : ℕ) (next : Action) → c ≢ d → done_of (after_step w c next) d ≡ done_of w d
done_others w c d next other =
    let q = ne_eqb c d other in
    rw q (ap (λ p. take (w.counts d) (w.meanings d (with_found p w.opening)).actions) (part_of-past_after c d (as_found w next) w.past other))

-- an admission doesn't change what the earlier calls have done
pub done_admitted : (w : World) (alone : Records → Outcome) (d : ℕ) → d < admits w.past → done_of (after_admission w alone) d ≡ done_of w d
done_admitted w alone d lt =
    let q = ne_eqb (admits w.past) d (λ e. omega arith) in
    rw q refl

pub none_admitted : (w : World) (alone : Records → Outcome) → done_of (after_admission w alone) (admits w.past) ≡ []
none_admitted w alone =
    let q = eq-eqb (admits w.past) (admits w.past) refl in
    rw q refl
