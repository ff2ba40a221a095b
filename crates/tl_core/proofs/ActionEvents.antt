-- The events that an action adds to a history.
use Rattle.std.proofs.Common.{◌≡◌, ◌≢◌, ℕ, zero, suc, ◌+◌, ◌≤◌, ◌||◌, false, List, [], ◌∷◌, length, refl, ap, ◌∙◌, arith}
use Rattle.std.proofs.lemmas.Bool.{ne_eqb, eq-eqb}
use Rattle.tl_tree_locking.specs.declared.action.Action.{Action}
use Rattle.tl_tree_locking.specs.declared.action.Action.TheVariants as did
use Rattle.tl_tree_locking.specs.declared.event.Event.{Event}
use Rattle.tl_tree_locking.specs.declared.event.Event.TheVariants.{Lock, Free, Done}
use Rattle.tl_tree_locking.specs.Actions.{is_end, has_ended, shared_actions, lock_count, free_count, taken}
use Rattle.tl_tree_locking.specs.History.{part_of, is_done}
use Rattle.tl_tree_locking.specs.World.{past_after}
use Rattle.tl_tree_locking.proofs.PartLemmas.{part_of-lock, part_of-free, part_of-done, part_of-other}

pub part_after : (c : ℕ) (a : Action) (past : List Event) (done : List Action) → part_of c past ≡ shared_actions done
    → part_of c (past_after c a past) ≡ shared_actions (a ∷ done)
part_after c did.Plain past done h = h
part_after c (did.Lock x found) past done h = part_of-lock c x found past ∙ ap (λ p. did.Lock x found ∷ p) h
part_after c (did.Read x f n) past done h = h
part_after c (did.Write x f n) past done h = h
part_after c (did.Free x left) past done h = part_of-free c x left past ∙ ap (λ p. did.Free x left ∷ p) h
part_after c (did.Emit n) past done h = h
part_after c did.End past done h = part_of-done c past ∙ ap (λ p. did.End ∷ p) h

pub part_of_others : (c : ℕ) (a : Action) (past : List Event) (d : ℕ) → c ≢ d → part_of d (past_after c a past) ≡ part_of d past
part_of_others c did.Plain past d other = refl
part_of_others c (did.Lock x found) past d other = part_of-other (Lock x c found) d past other
part_of_others c (did.Read x f n) past d other = refl
part_of_others c (did.Write x f n) past d other = refl
part_of_others c (did.Free x left) past d other = part_of-other (Free x c left) d past other
part_of_others c (did.Emit n) past d other = refl
part_of_others c did.End past d other = part_of-other (Done c) d past other

pub done_after : (c : ℕ) (a : Action) (past : List Event) → is_done c (past_after c a past) ≡ (is_end a || is_done c past)
done_after c did.Plain past = refl
done_after c (did.Lock x found) past = refl
done_after c (did.Read x f n) past = refl
done_after c (did.Write x f n) past = refl
done_after c (did.Free x left) past = refl
done_after c (did.Emit n) past = refl
done_after c did.End past = let same = eq-eqb c c refl in rw same refl

pub done_of_others : (c : ℕ) (a : Action) (past : List Event) (d : ℕ) → c ≢ d → is_done d (past_after c a past) ≡ is_done d past
done_of_others c did.Plain past d other = refl
done_of_others c (did.Lock x found) past d other = refl
done_of_others c (did.Read x f n) past d other = refl
done_of_others c (did.Write x f n) past d other = refl
done_of_others c (did.Free x left) past d other = refl
done_of_others c (did.Emit n) past d other = refl
done_of_others c did.End past d other = let q = ne_eqb c d other in rw q refl

-- ---- how many events

pub length-shared : (done : List Action) → has_ended done ≡ false → length (shared_actions done) ≡ lock_count done + free_count done
length-shared [] h = refl
length-shared (did.Plain ∷ done) h = length-shared done h
length-shared (did.Lock x found ∷ done) h = let e = length-shared done h in omega arith
length-shared (did.Read x f n ∷ done) h = length-shared done h
length-shared (did.Write x f n ∷ done) h = length-shared done h
length-shared (did.Free x left ∷ done) h = let e = length-shared done h in omega arith
length-shared (did.Emit n ∷ done) h = length-shared done h
length-shared (did.End ∷ done) h = absurd cc

pub lock_count-shared : (done : List Action) → lock_count (shared_actions done) ≡ lock_count done
lock_count-shared [] = refl
lock_count-shared (did.Plain ∷ done) = lock_count-shared done
lock_count-shared (did.Lock x found ∷ done) = let e = lock_count-shared done in omega arith
lock_count-shared (did.Read x f n ∷ done) = lock_count-shared done
lock_count-shared (did.Write x f n ∷ done) = lock_count-shared done
lock_count-shared (did.Free x left ∷ done) = lock_count-shared done
lock_count-shared (did.Emit n ∷ done) = lock_count-shared done
lock_count-shared (did.End ∷ done) = lock_count-shared done

-- later actions don't reduce the number of locks
pub lock_count-taken : (k : ℕ) (more done : List Action) → lock_count done ≤ lock_count (taken k more done)
lock_count-taken zero more done = omega arith
lock_count-taken (suc k) [] done = omega arith
lock_count-taken (suc k) (did.Plain ∷ more) done = lock_count-taken k more (did.Plain ∷ done)
lock_count-taken (suc k) (did.Lock x found ∷ more) done = let e = lock_count-taken k more (did.Lock x found ∷ done) in omega arith
lock_count-taken (suc k) (did.Read x f n ∷ more) done = lock_count-taken k more (did.Read x f n ∷ done)
lock_count-taken (suc k) (did.Write x f n ∷ more) done = lock_count-taken k more (did.Write x f n ∷ done)
lock_count-taken (suc k) (did.Free x left ∷ more) done = lock_count-taken k more (did.Free x left ∷ done)
lock_count-taken (suc k) (did.Emit n ∷ more) done = lock_count-taken k more (did.Emit n ∷ done)
lock_count-taken (suc k) (did.End ∷ more) done = lock_count-taken k more (did.End ∷ done)
