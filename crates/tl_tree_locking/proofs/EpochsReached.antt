-- Every world reached by admissions, steps and seals is sound, and the sealed worlds follow one another.
use Rattle.std.proofs.Common.{◌≡◌, ℕ, List, [], ◌∷◌, ◌++◌, length, map, refl, sym, ap, ◌∙◌, subst}
use Rattle.tl_tree.specs.Records.{Records}
use Rattle.tl_tree.specs.Shape.{IsTree}
use Rattle.tl_tree_locking.specs.declared.action.Action.{Action}
use Rattle.tl_tree_locking.specs.History.{AllDone, records_now}
use Rattle.tl_tree_locking.specs.Order.{placed}
use Rattle.tl_tree_locking.specs.Alone.{Outcome, IsAlone}
use Rattle.tl_tree_locking.specs.World.{World, IsSound, MayTake}
use Rattle.tl_tree_locking.specs.Epochs.{FollowOn, AreAtRest, AgreeEach, left_by, run_each, joined, joined_replies, placed_each, ReachedEpochs, Opens, Admits, Moves, Seals}
use Rattle.tl_tree_locking.proofs.Records.{length-records_now}
use Rattle.tl_tree_locking.proofs.PlacedAgrees.{placed-agrees}
use Rattle.tl_tree_locking.proofs.NoStandstill.{sound_history}
use Rattle.tl_tree_locking.proofs.ReachedWorlds.{sound_opening, sound_after_admission, sound_after_step}
use Rattle.tl_tree_locking.proofs.EpochsJoined.{epochs-serial}

-- one more epoch that has the shape and opens with what the others left follows them
follow-on : (parents : List ℕ) (opening : Records) (ws : List World) (w : World) → FollowOn parents opening ws → w.parents ≡ parents → w.opening ≡ left_by opening ws → FollowOn parents opening (ws ++ w ∷ [])
follow-on parents opening [] w follow shape opens = (shape, opens, tt)
follow-on parents opening (v ∷ vs) w follow shape opens = (follow.0, follow.1, follow-on parents (records_now v.past v.opening) vs w follow.2 shape opens)

-- the epochs leave what the last one leaves
pub left_by-last : (opening : Records) (ws : List World) (w : World) → left_by opening (ws ++ w ∷ []) ≡ records_now w.past w.opening
left_by-last opening [] w = refl
left_by-last opening (v ∷ vs) w = left_by-last (records_now v.past v.opening) vs w

at-rest : (ws : List World) (w : World) → AreAtRest ws → IsSound w → AllDone w.past → AreAtRest (ws ++ w ∷ [])
at-rest [] w rest sound over = (sound, over, tt)
at-rest (v ∷ vs) w rest sound over = (rest.0, rest.1, at-rest vs w rest.2 sound over)

agree-each : (ws : List World) → AreAtRest ws → AgreeEach (placed_each ws) ws
agree-each [] rest = tt
agree-each (w ∷ ws) rest = (placed-agrees w.parents rest.0.tree w.past (sound_history w rest.0), agree-each ws rest.2)

-- what is true of the sealed worlds and the current one
pub record AreInLine (parents : List ℕ) (opening : Records) (sealed : List World) (w : World) : Type 0 where
  pub parents_are : w.parents ≡ parents
  pub opening_is : w.opening ≡ left_by opening sealed
  pub sound : IsSound w
  pub follow : FollowOn parents opening sealed
  pub rest : AreAtRest sealed

pub reached_in_line : (parents : List ℕ) (opening : Records) → IsTree parents → length opening ≡ length parents → (sealed : List World) (w : World) → ReachedEpochs parents opening sealed w → AreInLine parents opening sealed w
reached_in_line parents opening tree size sealed w (Opens meanings) = record { parents_are = refl; opening_is = refl; sound = sound_opening parents opening meanings tree size; follow = tt; rest = tt }
reached_in_line parents opening tree size sealed w' (Admits before w alone reached is_alone) =
    let old = reached_in_line parents opening tree size before w reached in
    record { parents_are = old.parents_are; opening_is = old.opening_is; sound = sound_after_admission w alone old.sound (subst (λ ps. IsAlone ps alone) (sym old.parents_are) is_alone); follow = old.follow; rest = old.rest }
reached_in_line parents opening tree size sealed w' (Moves before w c next reached may) =
    let old = reached_in_line parents opening tree size before w reached in
    record { parents_are = old.parents_are; opening_is = old.opening_is; sound = sound_after_step w c next old.sound may; follow = old.follow; rest = old.rest }
reached_in_line parents opening tree size sealed w' (Seals before w meanings reached over) =
    let old = reached_in_line parents opening tree size before w reached in
    let width : length (records_now w.past w.opening) ≡ length parents = length-records_now w.past w.opening ∙ old.sound.size ∙ ap length old.parents_are in
    record {
      parents_are = refl;
      opening_is = sym (left_by-last opening before w);
      sound = sound_opening parents (records_now w.past w.opening) meanings tree width;
      follow = follow-on parents opening before w old.follow old.parents_are old.opening_is;
      rest = at-rest before w old.rest old.sound over;
    }

pub all-follow : (parents : List ℕ) (opening : Records) (sealed : List World) (w : World) → AreInLine parents opening sealed w → FollowOn parents opening (sealed ++ w ∷ [])
all-follow parents opening sealed w is = follow-on parents opening sealed w is.follow is.parents_are is.opening_is

pub epochs-placed : (parents : List ℕ) (opening : Records) (sealed : List World) (w : World) → AreInLine parents opening sealed w → AllDone w.past
    → ((run_each (joined (sealed ++ w ∷ []) (placed_each (sealed ++ w ∷ []))) opening).tree ≡ records_now w.past w.opening)
    × ((run_each (joined (sealed ++ w ∷ []) (placed_each (sealed ++ w ∷ []))) opening).replies ≡ joined_replies (sealed ++ w ∷ []) (placed_each (sealed ++ w ∷ [])))
epochs-placed parents opening sealed w is over =
    let all = sealed ++ w ∷ [] in
    let rest = at-rest sealed w is.rest is.sound over in
    let run = epochs-serial parents opening all (placed_each all) (all-follow parents opening sealed w is) rest (agree-each all rest) in
    (run.0 ∙ left_by-last opening sealed w, run.1)
