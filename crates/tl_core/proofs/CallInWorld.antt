-- A call in its core's world.
use Rattle.std.proofs.Common.{◌≡◌, ◌≢◌, ℕ, suc, ◌+◌, ◌<◌, ◌==◌, true, List, length, map, refl, sym, ap, ap₂, ◌∙◌, subst, arith, Option, Some, None, option_map, slice_get, get_or, Ok}
use Rattle.std.proofs.lemmas.Bool.{ne_eqb, eq-eqb, lt-ltb}
use Rattle.std.proofs.lemmas.List.{length-map}
use Rattle.std.proofs.lemmas.Option.{slice_get-map, slice_get_within, get_or_from_slice_get}
use Rattle.tl_tree.specs.Records.{Record, Records}
use Rattle.tl_tree.specs.Trees.{TreeValue}
use Rattle.tl_tree_locking.specs.declared.action.Action.{Action}
use Rattle.tl_tree_locking.specs.declared.action.Action.TheVariants as did
use Rattle.tl_tree_locking.specs.Actions.{with_found}
use Rattle.tl_tree_locking.specs.History.{part_of, is_done, admits, IsOpen}
use Rattle.tl_tree_locking.specs.Holders.{holder_of}
use Rattle.tl_tree_locking.specs.World.{IsSound, Reached, Moves, MayTake, alone_of, next_of}
use Rattle.tl_tree_locking.proofs.Records.{length-with_found}
use Rattle.tl_tree_locking.proofs.Holders.{holderless_may_take}
use Rattle.tl_tree_locking.proofs.ReachedWorlds.{sound_after_step}
use Rattle.tl_machine.specs.Runs.{Run, Then, actions}
use Rattle.tl_machine.specs.Outcomes.{meaning}
use Rattle.tl_machine.specs.BetweenSteps.{run_left}
use Rattle.tl_machine.specs.Turns.{Wants, Stops}
use Rattle.tl_machine.specs.Wants.{want_of}
use Rattle.tl_machine.specs.declared.want.Want.{Want}
use Rattle.tl_machine.specs.declared.want.Want.TheVariants as want
use Rattle.tl_machine.specs.declared.want.Stop.TheVariants as stop
use Rattle.tl_core.specs.Stored.{Kept}
use Rattle.tl_core.specs.Cores.{CoreValue, no_call, call_of, world_of}
use Rattle.tl_core.specs.Entries.{stepped_by, node_of, step_answer}
use Rattle.tl_machine.specs.Along.{with_left}
use Rattle.tl_core.specs.Kept.{IsCore, IsKept, call_value}
use Rattle.tl_core.proofs.WorldAfter.{after as core_after, code_after, world_is}
use Rattle.tl_machine.proofs.Along.{onto, actions-after_done, length-onto, at-onto, has_found, length-with_left, over_none}

-- ---- a call of a core

module _ (v : CoreValue) (now : TreeValue) (kept : List Kept) (holders : List (Option ℕ)) (open_count reserved : ℕ) (h : IsCore v now kept holders open_count reserved) (c : ℕ) (k : Kept) (at : slice_get kept c ≡ Some k) where
  abbrev pub keep : IsKept v c k
  keep = h.each c k at

  pub call_is : call_of v c ≡ call_value k
  call_is =
      let there : slice_get (map call_value kept) c ≡ Some (call_value k) = slice_get-map call_value kept c ∙ ap (λ o. option_map call_value o) at in
      ap (λ calls. get_or calls c no_call) h.calls ∙ get_or_from_slice_get (map call_value kept) c (call_value k) no_call there

  pub inside : c < length v.calls
  inside =
      let lt = slice_get_within kept c k at in
      let long : length v.calls ≡ length kept = ap length h.calls ∙ length-map kept call_value in
      omega arith

  pub admitted : c < admits v.past
  admitted = let e = h.counted in let lt = inside in omega arith

  -- the opening tree with the records that the call found, and below the same with those that it left
  abbrev pub found_tree : Records
  found_tree = with_found (part_of c v.past) v.opening

  abbrev pub left_tree : Records
  left_tree = with_left keep.done found_tree

  -- the rest of the call's run
  abbrev pub rest : Run
  rest = run_left k.turn.code.instrs v.parents k.turn.call left_tree

  pub found_size : length found_tree ≡ length v.parents
  found_size = length-with_found (part_of c v.past) v.opening ∙ h.sound.size

  pub left_size : length left_tree ≡ length v.parents
  left_size = length-with_left keep.done found_tree ∙ found_size

  pub whole : (alone_of ((world_of v).meanings c) v.opening v.past c).actions ≡ onto keep.done (actions rest)
  whole =
      ap (λ z. (meaning z.code.instrs v.parents z.args found_tree).actions) call_is
      ∙ ap actions (keep.along.runs found_tree found_size (has_found keep.done (part_of c v.past) v.opening keep.part))
      ∙ actions-after_done keep.done rest

  pub count_is : (call_of v c).count ≡ length keep.done
  count_is = ap (λ z. z.count) call_is ∙ keep.along.steps

  pub next_is : next_of (world_of v) c ≡ slice_get (actions rest) 0
  next_is = ap₂ slice_get whole count_is ∙ at-onto keep.done (actions rest)

  pub ended : is_done c v.past ≡ (length keep.done == length keep.done + length (actions rest))
  ended =
      let g = h.sound.legal.genuine c admitted in
      g.ended ∙ ap₂ (λ a b. a == b) count_is (ap length whole ∙ length-onto keep.done (actions rest))

  -- the kind of the turn's next action is that of the first action of the rest
  pub wants_here : (w : Want) → Wants k.turn w → want_of rest ≡ w
  wants_here w wants =
      subst (λ ps. (t : Records) → length t ≡ length ps → want_of (run_left k.turn.code.instrs ps k.turn.call t) ≡ w) keep.shape wants left_tree left_size

  -- ---- with no action left it is done

  pub over_done : Stops k.turn stop.Over → is_done c v.past ≡ true
  over_done wants =
      let none : length (actions rest) ≡ 0 = ap length (over_none rest (wants_here (want.Stop stop.Over) wants)) in
      ended ∙ eq-eqb (length keep.done) (length keep.done + length (actions rest)) (omega arith)

  -- ---- with an action left

  module _ (a : Action) (more : Run) (first : rest ≡ Then a more) where
    pub next_first : next_of (world_of v) c ≡ Some a
    next_first = next_is ∙ ap (λ r. slice_get (actions r) 0) first

    pub open_first : IsOpen c v.past
    open_first =
        let some : length (actions rest) ≡ suc (length (actions more)) = ap (λ r. length (actions r)) first in
        let ne : length keep.done ≢ length keep.done + length (actions rest) = λ e. omega arith in
        (admitted, ended ∙ ne_eqb (length keep.done) (length keep.done + length (actions rest)) ne)

    pub answer_first : step_answer (world_of v) c ≡ Ok (stepped_by (world_of v) a (holder_of v.past (node_of a)))
    answer_first =
        let known = lt-ltb c (admits v.past) admitted in
        let goes_on = open_first.1 in
        let next = next_first in
        rw (known, goes_on, next) refl

    pub may_first : ((x : ℕ) (found : Record) → a ≡ did.Lock x found → holder_of v.past x ≡ None) → MayTake (world_of v) c a
    may_first free = holderless_may_take (world_of v) h.sound c a open_first next_first free

  -- ---- the world after an action

  abbrev pub after : Action → CoreValue
  after a = core_after v c a

  pub same_code : (d : ℕ) → (call_of (core_after v c did.Plain) d).code ≡ (call_of v d).code
  same_code d = code_after v c inside d

  pub sound_after : (a : Action) → MayTake (world_of v) c a → IsSound (world_of (after a))
  sound_after a may = subst IsSound (sym (world_is v c inside a)) (sound_after_step (world_of v) c a h.sound may)

  pub reached_after : (a : Action) → MayTake (world_of v) c a → Reached v.parents v.opening (world_of (after a))
  reached_after a may = subst (Reached v.parents v.opening) (sym (world_is v c inside a)) (Moves (world_of v) c a h.reached may)
