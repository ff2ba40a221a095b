-- Every world reached by admissions and steps is sound, and when all calls are done, it ends like a serial run.
use Rattle.std.proofs.Common.{◌≡◌, ◌≢◌, ℕ, ◌<◌, ◌≤◌, true, false, List, [], ◌∷◌, length, map, refl, sym, ap, ◌∙◌, subst, inl, inr, arith}
use Rattle.std.proofs.lemmas.Bool.{cases_eq, cases_lt, both_ways, eqb-true, ne_eqb, eq-eqb}
use Rattle.tl_tree.specs.Records.{Records}
use Rattle.tl_tree.specs.Shape.{IsTree}
use Rattle.tl_tree_locking.specs.declared.action.Action.{Action}
use Rattle.tl_tree_locking.specs.declared.event.Event.{Event}
use Rattle.tl_tree_locking.specs.declared.event.Event.TheVariants.{Admit, Lock, Free, Done}
use Rattle.tl_tree_locking.specs.Actions.{locked_any, with_found, shared_actions, taken}
use Rattle.tl_tree_locking.specs.History.{part_of, is_done, admits, AllDone, InTurn, records_now}
use Rattle.tl_tree_locking.specs.Order.{stands, placed, Agrees}
use Rattle.tl_tree_locking.specs.Alone.{Outcome, all_taken, IsAlone, serial}
use Rattle.tl_tree_locking.specs.World.{World, alone_of, Genuine, Legal, IsSound, reply_of, MayTake, as_found, after_step, after_admission, opening_world, Reached, Opens, Admits, Moves}
use Rattle.tl_tree_locking.proofs.PlacedAgrees.{placed-agrees}
use Rattle.tl_tree_locking.proofs.Records.{length-with_found}
use Rattle.tl_tree_locking.proofs.Alone.{ends_some}
use Rattle.tl_tree_locking.proofs.Serial.{alone_local, serial-along}
use Rattle.tl_tree_locking.proofs.WorldSteps.{unadmitted, done_other, admits-past_after, legal_after_step}
use Rattle.tl_tree_locking.proofs.NoStandstill.{sound_history}

-- a call that wasn't admitted isn't done
pub unadmitted_done : (past : List Event) → InTurn past → (c : ℕ) → admits past ≤ c → is_done c past ≡ false
unadmitted_done [] turn c le = refl
unadmitted_done (Admit d ∷ past) turn c le = unadmitted_done past turn.1 c (omega arith)
unadmitted_done (Lock x d found ∷ past) turn c le = unadmitted_done past turn.1 c le
unadmitted_done (Free x d left ∷ past) turn c le = unadmitted_done past turn.1 c le
unadmitted_done (Done d ∷ past) turn c le =
    let lt : d < admits past = turn.0.0 in
    let ne : d ≢ c = λ w. omega arith in
    let q = ne_eqb d c ne in
    rw q (unadmitted_done past turn.1 c le)

-- an admission keeps a world legal
pub legal_after_admission : (w : World) (alone : Records → Outcome) → Legal w → length w.opening ≡ length w.parents → IsAlone w.parents alone → Legal (after_admission w alone)
legal_after_admission w alone legal len is_alone = record {
  in_turn = (refl, legal.in_turn);
  apart = legal.apart;
  follows = legal.follows;
  genuine = λ c lt. elim (cases_eq (admits w.past) c) [
    | inl same ↦
        let q = eq-eqb (admits w.past) c same in
        let p = unadmitted w.past legal.in_turn c (omega arith) in
        let d = unadmitted_done w.past legal.in_turn c (omega arith) in
        let some = ends_some (alone (with_found (part_of c w.past) w.opening)).actions (is_alone.ends (with_found (part_of c w.past) w.opening) (length-with_found (part_of c w.past) w.opening ∙ len)) in
        rw q (record { is_part = p; within = omega arith; ended = d ∙ sym (ne_eqb 0 (length (alone (with_found (part_of c w.past) w.opening)).actions) (λ e. omega arith)) })
    | inr other ↦
        let q = ne_eqb (admits w.past) c other in
        rw q (done_other (w.meanings c) w.opening w.past (Admit (admits w.past) ∷ w.past) c (w.counts c) (legal.genuine c (omega arith)) refl refl)
  ];
}

-- ---- sound worlds

pub sound_opening : (parents : List ℕ) (opening : Records) (meanings : ℕ → Records → Outcome) → IsTree parents → length opening ≡ length parents → IsSound (opening_world parents opening meanings)
sound_opening parents opening meanings tree size = record {
  tree = tree;
  size = size;
  meanings = λ c lt. absurd (omega arith);
  legal = record { in_turn = tt; apart = tt; follows = tt; genuine = λ c lt. absurd (omega arith) };
}

pub sound_after_admission : (w : World) (alone : Records → Outcome) → IsSound w → IsAlone w.parents alone → IsSound (after_admission w alone)
sound_after_admission w alone sound is_alone = record {
  tree = sound.tree;
  size = sound.size;
  meanings = λ c lt. elim (cases_eq (admits w.past) c) [
    | inl same ↦ let q = eq-eqb (admits w.past) c same in rw q is_alone
    | inr other ↦ let q = ne_eqb (admits w.past) c other in rw q (sound.meanings c (omega arith))
  ];
  legal = legal_after_admission w alone sound.legal sound.size is_alone;
}

pub sound_after_step : (w : World) (c : ℕ) (next : Action) → IsSound w → MayTake w c next → IsSound (after_step w c next)
sound_after_step w c next sound may = record {
  tree = sound.tree;
  size = sound.size;
  meanings = λ d lt. sound.meanings d (subst (λ n. d < n) (admits-past_after c (as_found w next) w.past) lt);
  legal = legal_after_step w c next sound.legal sound.size sound.meanings may;
}

-- a sound world with this shape and these opening records
pub record IsOver (parents : List ℕ) (opening : Records) (w : World) : Type 0 where
  pub parents_are : w.parents ≡ parents
  pub opening_is : w.opening ≡ opening
  pub sound : IsSound w

-- every world that is reached is sound
pub reached_sound : (parents : List ℕ) (opening : Records) → IsTree parents → length opening ≡ length parents → (w : World) → Reached parents opening w → IsOver parents opening w
reached_sound parents opening tree size w (Opens meanings) = record { parents_are = refl; opening_is = refl; sound = sound_opening parents opening meanings tree size }
reached_sound parents opening tree size w' (Admits w alone reached is_alone) =
    let old = reached_sound parents opening tree size w reached in
    record {
      parents_are = old.parents_are;
      opening_is = old.opening_is;
      sound = sound_after_admission w alone old.sound (subst (λ ps. IsAlone ps alone) (sym old.parents_are) is_alone);
    }
reached_sound parents opening tree size w' (Moves w c next reached may) =
    let old = reached_sound parents opening tree size w reached in
    record { parents_are = old.parents_are; opening_is = old.opening_is; sound = sound_after_step w c next old.sound may }

-- ---- once all calls are done

-- a call that is done has done everything that it does alone
all_of : (w : World) (c : ℕ) → Genuine (w.meanings c) w.opening w.past c (w.counts c) → is_done c w.past ≡ true → part_of c w.past ≡ shared_actions (all_taken (alone_of (w.meanings c) w.opening w.past c).actions)
all_of w c h over =
    let n = length (alone_of (w.meanings c) w.opening w.past c).actions in
    let all : w.counts c ≡ n = eqb-true (w.counts c) n (sym h.ended ∙ over) in
    h.is_part ∙ ap (λ k. shared_actions (taken k (alone_of (w.meanings c) w.opening w.past c).actions [])) all

-- run alone in an agreeing order, the calls leave the current records and give every reply
pub serial-agreeing : (w : World) → IsSound w → AllDone w.past → (order : List ℕ) → Agrees order w.past
    → ((serial w.meanings order w.opening).tree ≡ records_now w.past w.opening) × ((serial w.meanings order w.opening).replies ≡ map (reply_of w) order)
serial-agreeing w sound over order agrees =
    let legal = sound.legal in
    let history = sound_history w sound in
    let known : (c : ℕ) → stands c order ≡ true → c < admits w.past = λ c k. elim (cases_lt c (admits w.past)) [
      | inl here ↦ here
      | inr out ↦
          let p = unadmitted w.past legal.in_turn c out in
          let d = unadmitted_done w.past legal.in_turn c out in
          let none : locked_any (part_of c w.past) ≡ false = ap locked_any p in
          let m = agrees.members c in
          absurd (both_ways (stands c order) (grind (arith, m, none, d)) k)
    ] in
    serial-along w.parents w.meanings w.opening w.past order history agrees (record {
      follows = legal.follows;
      is_local = λ c k. alone_local w.parents (length w.opening) sound.size (w.meanings c) (sound.meanings c (known c k));
      genuine = λ c k. let lt = known c k in all_of w c (legal.genuine c lt) (over c lt);
    })

-- the same for the order that the history determines
pub serial-placed : (w : World) → IsSound w → AllDone w.past
    → ((serial w.meanings (placed w.parents w.past) w.opening).tree ≡ records_now w.past w.opening)
    × ((serial w.meanings (placed w.parents w.past) w.opening).replies ≡ map (reply_of w) (placed w.parents w.past))
serial-placed w sound over = serial-agreeing w sound over (placed w.parents w.past) (placed-agrees w.parents sound.tree w.past (sound_history w sound))
