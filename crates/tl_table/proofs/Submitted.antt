-- A table after a segment.
use Rattle.std.proofs.Common.{◌≡◌, ◌≢◌, ◌⊎◌, ⊎_elim, inl, inr, ℕ, zero, suc, ◌<◌, ◌≤◌, true, false, List, [], ◌∷◌, ◌++◌, length, set, get_or, refl, sym, ap, ◌∙◌, subst, arith}
use Rattle.std.specs.Prelude.{◌||◌, if◌then◌else◌, slice_set, Ok}
use Rattle.std.proofs.lemmas.Bool.{cases_eq, eq-eqb, ne_eqb}
use Rattle.tl_history.specs.declared.history.TheConstants.{MAX_CALLS}
use Rattle.tl_tree_locking.specs.declared.action.Action.{Action}
use Rattle.tl_tree_locking.specs.declared.action.Action.TheVariants as did
use Rattle.tl_tree_locking.specs.declared.event.Event.{Event}
use Rattle.tl_tree_locking.specs.declared.event.Event.TheVariants.{Done}
use Rattle.tl_tree_locking.specs.History.{is_done, admits}
use Rattle.tl_tree_locking.specs.World.{past_after}
use Rattle.tl_machine.specs.Turns.{SegmentValue}
use Rattle.tl_machine.specs.declared.want.Stop.{Stop}
use Rattle.tl_core.specs.declared.stepped.Stepped.TheVariants.{Moved}
use Rattle.tl_core.specs.Cores.{CoreState, CoreValue}
use Rattle.tl_core.specs.Entries.{after_step}
use Rattle.tl_core.specs.declared.fault.CoreFault.{CoreFault}
use Rattle.tl_core.specs.declared.fault.CoreFault.TheVariants as core_fault
use Rattle.tl_core.specs.Followed.{Goes, EachLocal, EndsStop, HasGone, IsFollowFault}
use Rattle.tl_table.specs.declared.fault.TableFault.{TableFault}
use Rattle.tl_table.specs.declared.fault.TableFault.TheVariants as fault
use Rattle.tl_table.specs.Sent.{IsSubmitFault}
use Rattle.tl_table.specs.Ends.{begun_by_end}
use Rattle.tl_table.specs.Epochs.{EpochValue, seen, IsKnown}
use Rattle.tl_table.specs.Stored.{IsEpoch}

-- ---- what becomes of the history

-- no call ended
pub record Passes (past : List Event) (c : ℕ) (now : List Event) : Type 0 where
  pub done : (d : ℕ) → is_done d now ≡ is_done d past
  pub begun : (d : ℕ) → begun_by_end d now ≡ begun_by_end d past

-- the same calls, of which none ended or only c did
pub record IsLater (v : CoreValue) (c : ℕ) (w : CoreValue) : Type 0 where
  pub calls : length w.calls ≡ length v.calls
  pub passes : Passes v.past c w.past ⊎ (w.past ≡ Done c ∷ v.past)

length-slice_set : {X : Type 0} → (xs : List X) (i : ℕ) (x : X) → length (slice_set xs i x) ≡ length xs
length-slice_set [] i x = refl
length-slice_set (y ∷ ys) zero x = refl
length-slice_set (y ∷ ys) (suc i) x = ap suc (length-slice_set ys i x)

local_past : (a : Action) (c : ℕ) (past : List Event) → EachLocal (a ∷ []) → past_after c a past ≡ past
local_past (did.Lock x found) c past h = absurd h.0
local_past (did.Free x left) c past h = absurd h.0
local_past did.End c past h = absurd h.0
local_past did.Plain c past h = refl
local_past (did.Read x f n) c past h = refl
local_past (did.Write x f n) c past h = refl
local_past (did.Emit n) c past h = refl

stop_past : (s : Stop) (a : Action) (c : ℕ) (past : List Event) → EndsStop s a → Passes past c (past_after c a past) ⊎ (past_after c a past ≡ Done c ∷ past)
stop_past s (did.Lock x found) c past h = inl (record { done = λ d. refl; begun = λ d. refl })
stop_past s (did.Free x left) c past h = inl (record { done = λ d. refl; begun = λ d. refl })
stop_past s did.End c past h = inr refl
stop_past s did.Plain c past h = absurd h
stop_past s (did.Read x f n) c past h = absurd h
stop_past s (did.Write x f n) c past h = absurd h
stop_past s (did.Emit n) c past h = absurd h

-- only the last action changes the history
goes_on : (v : CoreValue) (c : ℕ) (local : List Action) (last : Action) (w : CoreValue) → EachLocal local → Goes v c (local ++ last ∷ []) w
    → (length w.calls ≡ length v.calls) × (w.past ≡ past_after c last v.past)
goes_on v c [] last w h g = (ap (λ u. length u.calls) (sym g.1) ∙ length-slice_set v.calls c _, ap (λ u. u.past) (sym g.1))
goes_on v c (a ∷ local) last w h g =
    let rest = goes_on (after_step v c (Ok (Moved a))) c local last w h.1 g.1 in
    (rest.0 ∙ length-slice_set v.calls c _, rest.1 ∙ ap (past_after c last) (local_past a c v.past (h.0, tt)))

pub gone : (v w : CoreState) (c : ℕ) (segment : SegmentValue) → HasGone v c segment w → IsLater v.seen c w.seen
gone v w c segment h =
    let on = goes_on v.seen c h.local h.last w.seen h.each_local h.goes in
    record {
      calls = on.0;
      passes = subst (λ past. Passes v.seen.past c past ⊎ (past ≡ Done c ∷ v.seen.past)) (sym on.1) (stop_past segment.stop h.last c v.seen.past h.is_last);
    }

-- ---- the table stays one

done_now : (c : ℕ) (past : List Event) → is_done c (Done c ∷ past) ≡ true
done_now c past = ap (λ t. t || is_done c past) (eq-eqb c c refl)

other_ends : (c d : ℕ) (past : List Event) → c ≢ d → (is_done d (Done c ∷ past) ≡ is_done d past) × (begun_by_end d (Done c ∷ past) ≡ begun_by_end d past)
other_ends c d past ne =
    let q = ne_eqb c d ne in
    (ap (λ t. t || is_done d past) q, ap (λ t. if t then admits past else begun_by_end d past) q)

-- a call that goes on
pub table_went : (t : EpochValue) (begun : List ℕ) (owners_room begun_room : ℕ) → IsEpoch t begun owners_room begun_room
    → (w : CoreState) (c : ℕ) → IsLater (seen t) c w.seen → is_done c w.seen.past ≡ false
    → IsEpoch (record { number = t.number; core = w; sessions = t.sessions; owners = t.owners }) begun owners_room begun_room
table_went t begun ro rb h w c later open_yet = record {
  few = h.few;
  owned = h.owned ∙ sym later.calls;
  given = λ d known. h.given d (omega (arith, known, later.calls));
  counted = h.counted ∙ sym later.calls;
  ends = λ d known done. ⊎_elim
      (λ (p : Passes (seen t).past c w.seen.past). h.ends d (omega (arith, known, later.calls)) (sym (p.done d) ∙ done) ∙ sym (p.begun d))
      (λ (e : w.seen.past ≡ Done c ∷ (seen t).past). absurd (let f : false ≡ true = sym open_yet ∙ ap (is_done c) e ∙ done_now c (seen t).past in cc))
      later.passes;
  owners_fit = h.owners_fit;
  begun_fit = h.begun_fit;
}

get_or-set_same : (xs : List ℕ) (i x : ℕ) → i < length xs → get_or (set xs i x) i 0 ≡ x
get_or-set_same [] i x lt = absurd (omega (arith, lt))
get_or-set_same (y ∷ ys) zero x lt = refl
get_or-set_same (y ∷ ys) (suc i) x lt = get_or-set_same ys i x (omega (arith, lt))

get_or-set_other : (xs : List ℕ) (i d x : ℕ) → i ≢ d → get_or (set xs i x) d 0 ≡ get_or xs d 0
get_or-set_other [] i d x ne = refl
get_or-set_other (y ∷ ys) zero zero x ne = absurd (ne refl)
get_or-set_other (y ∷ ys) zero (suc d) x ne = refl
get_or-set_other (y ∷ ys) (suc i) zero x ne = refl
get_or-set_other (y ∷ ys) (suc i) (suc d) x ne = get_or-set_other ys i d x (λ e. ne (ap suc e))

length-set : (xs : List ℕ) (i x : ℕ) → length (set xs i x) ≡ length xs
length-set [] i x = refl
length-set (y ∷ ys) zero x = refl
length-set (y ∷ ys) (suc i) x = ap suc (length-set ys i x)

-- a call that has ended
pub table_finished : (t : EpochValue) (begun : List ℕ) (owners_room begun_room : ℕ) → IsEpoch t begun owners_room begun_room
    → (w : CoreState) (c : ℕ) → IsLater (seen t) c w.seen → IsKnown t c → length (seen t).calls ≡ admits (seen t).past
    → is_done c (seen t).past ≡ false → is_done c w.seen.past ≡ true
    → (n : ℕ) → n ≡ length w.seen.calls → (more : List ℕ) → more ≡ set begun c n → (s : ℕ) → s ≡ begun_room
    → IsEpoch (record { number = t.number; core = w; sessions = t.sessions; owners = t.owners }) more owners_room s
table_finished t begun ro rb h w c later known_c counted was_open done_c n n_is more more_is s s_is =
    let inside : c < length begun = omega (arith, known_c, h.counted) in
    ⊎_elim
    (λ (p : Passes (seen t).past c w.seen.past). absurd (let f : false ≡ true = sym was_open ∙ sym (p.done c) ∙ done_c in cc))
    (λ (e : w.seen.past ≡ Done c ∷ (seen t).past). record {
      few = h.few;
      owned = h.owned ∙ sym later.calls;
      given = λ d known. h.given d (omega (arith, known, later.calls));
      counted = ap length more_is ∙ length-set begun c n ∙ h.counted ∙ sym later.calls;
      ends = λ d known done. ap (λ xs. get_or xs d 0) more_is ∙ elim (cases_eq c d) [
        | inl same ↦
            let q = eq-eqb c d same in
            let m : begun_by_end d w.seen.past ≡ admits (seen t).past = ap (begun_by_end d) e ∙ ap (λ b. if b then admits (seen t).past else begun_by_end d (seen t).past) q in
            ap (λ k. get_or (set begun c n) k 0) (sym same) ∙ get_or-set_same begun c n inside ∙ n_is ∙ later.calls ∙ counted ∙ sym m
        | inr ne ↦
            let others = other_ends c d (seen t).past ne in
            get_or-set_other begun c d n ne ∙ h.ends d (omega (arith, known, later.calls)) (sym others.0 ∙ sym (ap (is_done d) e) ∙ done) ∙ sym (ap (begun_by_end d) e ∙ others.1)
      ];
      owners_fit = h.owners_fit;
      begun_fit = subst (λ k. MAX_CALLS ≤ k) (sym s_is) h.begun_fit;
    })
    later.passes

-- a core's refusal of a segment, as a fault of the table
pub submit_fault : (t : EpochValue) (c : ℕ) (seg : SegmentValue) (e : CoreFault) (f : TableFault) → length (seen t).calls ≡ admits (seen t).past
    → (e ≡ core_fault.NotFrom → f ≡ fault.Stale) → (e ≢ core_fault.NotFrom → f ≡ fault.Core e) → IsFollowFault t.core c seg e → IsSubmitFault t c seg f
submit_fault t c seg e f counted stale other (inl unknown) =
    let unlike : e ≢ core_fault.NotFrom = λ same. let a : core_fault.NoCall ≡ core_fault.NotFrom = sym unknown.0 ∙ same in cc in
    inl (other unlike ∙ ap (λ g. fault.Core g) unknown.0, let le = unknown.1 in omega arith)
submit_fault t c seg e f counted stale other (inr elsewhere) = inr (stale elsewhere.0, let lt = elsewhere.1 in omega arith, elsewhere.2)
