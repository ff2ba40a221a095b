-- A turn that a core's call took can be taken again.
use Rattle.std.proofs.Common.{◌≡◌, ◌≢◌, ℕ, ◌<◌, ◌≤◌, false, ℤ, List, [], ◌∷◌, ◌++◌, length, map, reverse, get_or, refl, sym, ap, ◌∙◌, subst, inl, inr, arith, Option, Some, None, Ok, slice_get, string_bytes}
use Rattle.std.specs.Option.{option_map_or}
use Rattle.std.proofs.lemmas.Bool.{eq-eqb, lt-ltb, le-leb, both_ways}
use Rattle.std.proofs.lemmas.List.{append_assoc, reverse-append, length-take-le, get_or-take}
use Rattle.tl_tree.specs.Records.{Record, Records}
use Rattle.tl_tree_locking.specs.declared.action.Action.{Action}
use Rattle.tl_tree_locking.specs.declared.action.Action.TheVariants as did
use Rattle.tl_tree_locking.specs.declared.event.Event.{Event}
use Rattle.tl_tree_locking.specs.declared.event.Event.TheVariants.{Admit, Lock, Free, Done}
use Rattle.tl_tree_locking.specs.Actions.{held}
use Rattle.tl_tree_locking.specs.History.{caller, admits, part_of, is_done, IsOpen}
use Rattle.tl_tree_locking.specs.Holders.{holder_of}
use Rattle.tl_tree_locking.specs.World.{World, Reached, MayTake, IsFree, next_of, alone_of}
use Rattle.tl_tree_locking.proofs.Holders.{holder-held}
use Rattle.tl_tree_locking.proofs.NoStandstill.{sound_history}
use Rattle.tl_machine.specs.Outcomes.{meaning}
use Rattle.tl_procedures.specs.declared.request.Request.{Request}
use Rattle.tl_procedures.specs.Names.{Named, no_procedure, number_of}
use Rattle.tl_core.specs.declared.fault.CoreFault.{CoreFault}
use Rattle.tl_core.specs.declared.fault.CoreFault.TheVariants as fault
use Rattle.tl_core.specs.declared.stepped.Stepped.{Stepped}
use Rattle.tl_core.specs.declared.stepped.Stepped.TheVariants.{Moved, Blocked, Over}
use Rattle.tl_core.specs.Cores.{CoreState, CoreValue, no_call, call_of, code_of, world_of, open_calls, places, room}
use Rattle.tl_core.specs.Entries.{stepped_by, stepped_to, node_of, step_answer, procedure_at, refusal_of, admission_refusal}
use Rattle.tl_core.specs.Followed.{Proceeds}
use Rattle.tl_core.specs.Reached.{as_of, HasRoomFor, EachHadRoom, IsReached}
use Rattle.tl_core.proofs.Rooms.{AreAlike, has_room_alike}
use Rattle.tl_history.specs.declared.history.TheConstants.{MAX_CALLS}
use Rattle.tl_core.specs.declared.interleaving.TheConstants.{MAX_OPEN}
use Rattle.tl_recover.specs.Redriven.{IsAsked, Fits, GoesOn, AreTurnsTo}
use Rattle.tl_recover.proofs.SameTurns.{some_at, IsShared, shared_of, Behind, Back, back, same_next, same_history}
use Rattle.tl_recover.proofs.Turns.{Keeps, keeps_proceeds, past_goes, fits_again}

-- ---- the event of a turn

-- the event at a turn, and the events before and after it
record Split (past : List Event) (c : ℕ) (earlier : List ℕ) : Type 0 where
  pub later : List Event
  pub event : Event
  pub before : List Event
  pub is : past ≡ later ++ event ∷ before
  pub of_call : caller event ≡ c
  pub turns : map caller before ≡ earlier

one_later : (e : Event) (past : List Event) (c : ℕ) (earlier : List ℕ) → Split past c earlier → Split (e ∷ past) c earlier
one_later e past c earlier s = record { later = e ∷ s.later; event = s.event; before = s.before; is = ap (λ l. e ∷ l) s.is; of_call = s.of_call; turns = s.turns }

split_at : (past : List Event) (later : List ℕ) (c : ℕ) (earlier : List ℕ) → map caller past ≡ later ++ c ∷ earlier → Split past c earlier
split_at [] [] c earlier is = absurd (let l = ap length is in omega arith)
split_at [] (t ∷ later) c earlier is = absurd (let l = ap length is in omega arith)
split_at (e ∷ past) [] c earlier is = record { later = []; event = e; before = past; is = refl; of_call = cc; turns = cc }
split_at (e ∷ past) (t ∷ later) c earlier is =
    let tail : map caller past ≡ later ++ c ∷ earlier = cc in
    one_later e past c earlier (split_at past later c earlier tail)

pub admits_later : (later past : List Event) → admits past ≤ admits (later ++ past)
admits_later [] past = omega arith
admits_later (Admit c ∷ later) past = let rest = admits_later later past in omega arith
admits_later (Lock x c found ∷ later) past = admits_later later past
admits_later (Free x c left ∷ later) past = admits_later later past
admits_later (Done c ∷ later) past = admits_later later past

had_room_at : (v : CoreValue) (later past : List Event) → EachHadRoom v (later ++ past) → EachHadRoom v past
had_room_at v [] past h = h
had_room_at v (Admit c ∷ later) past h = had_room_at v later past h.1
had_room_at v (Lock x c found ∷ later) past h = had_room_at v later past h
had_room_at v (Free x c left ∷ later) past h = had_room_at v later past h
had_room_at v (Done c ∷ later) past h = had_room_at v later past h

-- the world before an event
behind_at : (parents : List ℕ) (opening : Records) (later : List Event) (e : Event) (q : List Event) (w : World) → Reached parents opening w → w.past ≡ later ++ e ∷ q
    → Behind parents opening w.meanings e q
behind_at parents opening [] e q w reached is = subst (Back parents opening w.meanings) is (back parents opening w reached)
behind_at parents opening (f ∷ later) e q w reached is =
    let last : Behind parents opening w.meanings f (later ++ e ∷ q) = subst (Back parents opening w.meanings) is (back parents opening w reached) in
    let rest = behind_at parents opening later e q last.was last.reached last.past_is in
    let more = admits_later (later ++ e ∷ []) q in
    let joined : admits ((later ++ e ∷ []) ++ q) ≡ admits (later ++ e ∷ q) = ap admits (append_assoc later (e ∷ []) q) in record {
      was = rest.was;
      reached = rest.reached;
      past_is = rest.past_is;
      meanings = λ d lt. rest.meanings d lt ∙ last.meanings d (omega arith);
      how = rest.how;
    }

-- ---- calls of the same requests

module _ (v w : CoreValue) (requests : List Request) (parents : w.parents ≡ v.parents) (procedures : w.procedures ≡ v.procedures) (asked_v : Fits v requests) (asked_w : Fits w requests)
    (c : ℕ) (known_v : c < length v.calls) (known_w : c < length w.calls) where
  abbrev request : (r : Request) × (slice_get requests c ≡ Some r)
  request = some_at requests c (let few = asked_v.few in omega arith)

  abbrev is_v : IsAsked v c request.0
  is_v = asked_v.each c request.0 known_v request.1

  abbrev is_w : IsAsked w c request.0
  is_w = asked_w.each c request.0 known_w request.1

  pub same_procedure : (call_of v c).procedure ≡ (call_of w c).procedure
  same_procedure =
      let named : Some (call_of v c).procedure ≡ Some (call_of w c).procedure =
      sym is_v.procedure ∙ ap (λ l. number_of l (string_bytes request.0.name)) (sym procedures) ∙ is_w.procedure in
      cc

  pub same_code : (call_of v c).code ≡ (call_of w c).code
  same_code =
      let number = same_procedure in
      is_v.code ∙ ap (λ p. (procedure_at v p).code) number ∙ ap (λ l. (get_or l (call_of w c).procedure no_procedure).code) (sym procedures) ∙ sym is_w.code

  pub same_args : (call_of v c).args ≡ (call_of w c).args
  same_args = is_v.args ∙ sym is_w.args

  pub same_meaning : (world_of v).meanings c ≡ (world_of w).meanings c
  same_meaning =
      let code = same_code in
      let args = same_args in
      let shape = sym parents in
      λ i. meaning (code i).instrs (shape i) (args i)

-- ---- a step that isn't refused

abbrev pub IsMoved : Stepped → Type 0
IsMoved (Moved a) = Unit {0}
IsMoved s = ⊥

pub not_blocked : (w : World) (a : Action) (holder : Option ℕ) → ((x : ℕ) (found : Record) (d : ℕ) → a ≡ did.Lock x found → holder ≡ Some d → ⊥) → IsMoved (stepped_by w a holder)
not_blocked w (did.Lock x found) (Some d) free = free x found d refl refl
not_blocked w (did.Lock x found) None free = tt
not_blocked w (did.Free x left) holder free = tt
not_blocked w did.End holder free = tt
not_blocked w (did.Read x f n) holder free = tt
not_blocked w (did.Write x f n) holder free = tt
not_blocked w (did.Emit n) holder free = tt
not_blocked w did.Plain holder free = tt

-- ---- an admission that isn't refused

not_refused : (u : CoreValue) (p : Named) (args : List ℤ) → length args ≡ p.code.arity → HasRoomFor u p.code.instrs → refusal_of u p args ≡ None
not_refused u p args arity h =
    let fits = eq-eqb (length args) p.code.arity arity in
    let few = lt-ltb (length u.calls) MAX_CALLS h.few in
    let few_open = lt-ltb (open_calls u) MAX_OPEN h.few_open in
    let enough = le-leb (places p.code.instrs (length u.parents)) (room u) h.enough in
    rw (fits, few, few_open, enough) refl

-- ---- the next turn

module _ (v u : CoreValue) (requests : List Request) (call : ℕ) (later : List ℕ) (to : AreTurnsTo v u requests (call ∷ later)) (ru : IsReached u) where
  at : Split v.past call (map caller u.past)
  at = split_at v.past (reverse later) call (map caller u.past) (to.took ∙ ap (λ l. l ++ map caller u.past) (reverse-append (call ∷ []) later) ∙ append_assoc (reverse later) (call ∷ []) (map caller u.past))

  behind : Behind v.parents v.opening (world_of v).meanings at.event at.before
  behind = behind_at v.parents v.opening at.later at.event at.before (world_of v) to.reached.reached at.is

  in_tree : (w : CoreValue) → w.parents ≡ v.parents → w.opening ≡ v.opening → Reached w.parents w.opening (world_of w) → Reached v.parents v.opening (world_of w)
  in_tree w parents opening reached = subst (λ o. Reached v.parents o (world_of w)) opening (subst (λ p. Reached p w.opening (world_of w)) parents reached)

  few : admits at.before ≤ length v.calls
  few =
      let counted = to.reached.counted in
      let same : admits v.past ≡ admits ((at.later ++ at.event ∷ []) ++ at.before) = ap admits (at.is ∙ sym (append_assoc at.later (at.event ∷ []) at.before)) in
      let less = admits_later (at.later ++ at.event ∷ []) at.before in
      omega arith

  meaning_is : (w : CoreValue) → Fits w requests → w.parents ≡ v.parents → w.procedures ≡ v.procedures → (c : ℕ) → c < admits at.before → c < length w.calls → behind.was.meanings c ≡ (world_of w).meanings c
  meaning_is w asked parents procedures c lt known = behind.meanings c lt ∙ same_meaning v w requests parents procedures to.asked asked c (let f = few in omega arith) known

  past_is : at.before ≡ u.past
  past_is =
      same_history v.parents v.opening to.reached.sound.tree to.reached.sound.size at.before u.past behind.was (world_of u) behind.reached (in_tree u to.parents to.opening ru.reached) behind.past_is refl
      (λ c lt lt'. meaning_is u to.asked_now to.parents to.procedures c lt (let counted = ru.counted in omega arith)) at.turns

  before_count : admits at.before ≡ length u.calls
  before_count = ap admits past_is ∙ sym ru.counted

  -- ---- an admission

  module _ (new : call ≡ length u.calls) where
    event_is : at.event ≡ Admit call
    event_is = elim behind.how [
      | inl admission ↦ admission ∙ ap Admit (before_count ∙ sym new)
      | inr (next, may, is) ↦
          absurd (let known = may.is_open.0 in let was = ap admits behind.past_is in let count = before_count in let of_call = at.of_call in omega arith)
    ]

    known : call < length v.calls
    known =
        let counted = to.reached.counted in
        let same : admits v.past ≡ admits (at.later ++ Admit call ∷ at.before) = ap admits at.is ∙ ap (λ e. admits (at.later ++ e ∷ at.before)) event_is in
        let less = admits_later at.later (Admit call ∷ at.before) in
        let count = before_count in
        omega arith

    pub asked : call < length requests
    asked = let all = to.asked.few in let here = known in omega arith

    had_room : HasRoomFor (as_of v at.before) (code_of v call)
    had_room =
        let before : EachHadRoom v (at.event ∷ at.before) = had_room_at v at.later (at.event ∷ at.before) (subst (EachHadRoom v) at.is to.reached.had_room) in
        let here : EachHadRoom v (Admit call ∷ at.before) = subst (λ e. EachHadRoom v (e ∷ at.before)) event_is before in
        here.0

    alike : AreAlike (as_of v at.before) u
    alike =
        let long = length-take-le (admits at.before) v.calls few in record {
          long = long ∙ before_count;
          codes = λ c lt.
              ap (λ z. z.code) (get_or-take (admits at.before) v.calls c no_call (omega arith))
              ∙ same_code v u requests to.parents to.procedures to.asked to.asked_now c (let f = few in omega arith) (let count = before_count in omega arith);
          past = past_is;
          parents = sym to.parents;
          limit = to.limit;
        }

    has_room : HasRoomFor u (code_of v call)
    has_room = has_room_alike (as_of v at.before) u alike (code_of v call) had_room

    pub free : (r : Request) → slice_get requests call ≡ Some r → admission_refusal u (string_bytes r.name) r.args.items ≡ None
    free r is =
        let asks = to.asked.each call r known is in
        let fit = to.reached.fit call known in
        let number : number_of u.procedures (string_bytes r.name) ≡ Some (call_of v call).procedure = ap (λ l. number_of l (string_bytes r.name)) to.procedures ∙ asks.procedure in
        let code : (procedure_at u (call_of v call).procedure).code ≡ (call_of v call).code =
        ap (λ l. (get_or l (call_of v call).procedure no_procedure).code) to.procedures ∙ sym fit.code in
        let arity : length r.args.items ≡ (procedure_at u (call_of v call).procedure).code.arity = ap length (sym asks.args) ∙ fit.arity ∙ ap (λ z. z.arity) (sym code) in
        ap (λ o. option_map_or (λ p. refusal_of u (procedure_at u p) r.args.items) o (Some fault.NoProcedure)) number
        ∙ not_refused u (procedure_at u (call_of v call).procedure) r.args.items arity (subst (λ z. HasRoomFor u z.instrs) (sym code) has_room)

  -- ---- a turn of a call that was admitted

  module _ (old : call ≢ length u.calls) where
    pub admitted : call < admits u.past
    admitted = elim behind.how [
      | inl admission ↦ absurd (old (sym at.of_call ∙ ap caller admission ∙ before_count))
      | inr (next, may, is) ↦
          let known = may.is_open.0 in let was = ap admits behind.past_is in let count = before_count in let counted = ru.counted in let of_call = at.of_call in omega arith
    ]

    -- the call isn't refused its next step that isn't local
    module _ (w : CoreValue) (rw' : IsReached w) (keeps : Keeps u w) (same_past : w.past ≡ u.past) (next : Action) (may : MayTake behind.was call next) (shared : IsShared next) where
      pasts : behind.was.past ≡ w.past
      pasts = behind.past_is ∙ past_is ∙ sym same_past

      is_open : IsOpen call w.past
      is_open = subst (IsOpen call) pasts may.is_open

      reached : Reached v.parents v.opening (world_of w)
      reached = in_tree w (keeps.goes_on.parents ∙ to.parents) (keeps.goes_on.opening ∙ to.opening) rw'.reached

      known_now : call < length w.calls
      known_now = let counted = rw'.counted in let here = is_open.0 in omega arith

      meanings : behind.was.meanings call ≡ (world_of w).meanings call
      meanings =
          meaning_is w (fits_again u w requests keeps to.asked_now) (keeps.goes_on.parents ∙ to.parents) (keeps.goes_on.procedures ∙ to.procedures) call
          (let was = ap admits behind.past_is in let here = may.is_open.0 in omega arith) known_now

      is_free : (x : ℕ) (found : Record) (d : ℕ) → next_of (world_of w) call ≡ Some (did.Lock x found) → holder_of w.past x ≡ Some d → ⊥
      is_free x found d next_is holds =
          let same : next ≡ did.Lock x found =
          same_next v.parents v.opening to.reached.sound.tree to.reached.sound.size behind.was (world_of w) behind.reached reached pasts call meanings next (did.Lock x found)
          may.is_open.0 may.is_next is_open.0 next_is shared (λ done. refl) in
          let free : IsFree behind.was.past (did.Lock x found) = subst (IsFree behind.was.past) same may.is_free in
          let held_now = holder-held w.parents w.past (sound_history (world_of w) rw'.sound) d x holds in
          both_ways (held (part_of d w.past) x) (subst (λ p. held (part_of d p) x ≡ false) pasts (free d)) held_now

      goes : (o : Option Action) → next_of (world_of w) call ≡ o → IsMoved (stepped_to (world_of w) o)
      goes (Some a) next_is = not_blocked (world_of w) a (holder_of w.past (node_of a)) (λ x found d is_lock holds. is_free x found d (next_is ∙ ap Some is_lock) (ap (λ b. holder_of w.past (node_of b)) (sym is_lock) ∙ holds))
      goes None next_is =
          let g = rw'.sound.legal.genuine call is_open.0 in
          let actions = (alone_of ((world_of w).meanings call) w.opening w.past call).actions in
          let ne : (world_of w).counts call ≢ length actions = λ same. both_ways (is_done call w.past) is_open.1 (g.ended ∙ eq-eqb ((world_of w).counts call) (length actions) same) in
          let within = g.within in
          let some = some_at actions ((world_of w).counts call) (omega arith) in
          let clash = sym next_is ∙ some.1 in
          absurd cc

      answers : (s : Stepped) → step_answer (world_of w) call ≡ Ok s → IsMoved s
      answers s answer =
          let known = lt-ltb call (admits w.past) is_open.0 in
          let open' = is_open.1 in
          let here : step_answer (world_of w) call ≡ Ok (stepped_to (world_of w) (next_of (world_of w) call)) = rw (known, open') refl in
          let both : Ok (stepped_to (world_of w) (next_of (world_of w) call)) ≡ Ok s = sym here ∙ answer in
          let same : stepped_to (world_of w) (next_of (world_of w) call) ≡ s = cc in
          subst IsMoved same (goes (next_of (world_of w) call) refl)

    pub answered : (w : CoreValue) → IsReached w → Keeps u w → w.past ≡ u.past → (s : Stepped) → step_answer (world_of w) call ≡ Ok s → IsMoved s
    answered w reached keeps same_past s answer = elim behind.how [
      | inl admission ↦ absurd (old (sym at.of_call ∙ ap caller admission ∙ before_count))
      | inr (next, may, is) ↦
          answers w reached keeps same_past next (subst (λ c. MayTake behind.was c next) at.of_call may) (shared_of behind.was (caller at.event) next at.event at.before is) s answer
    ]

-- a call that took the next turn there isn't blocked or over
module _ (v : CoreValue) (u w : CoreState) (requests : List Request) (call : ℕ) (later : List ℕ) (to : AreTurnsTo v u.seen requests (call ∷ later)) (ru : IsReached u.seen) (rw' : IsReached w.seen)
    (old : call ≢ length u.seen.calls) where
  unmoved : (s : Stepped) (p : Proceeds u call s w) → w.seen ≡ p.there → IsMoved s
  unmoved s p here =
      answered v u.seen requests call later to ru old w.seen rw' (keeps_proceeds u w call s p) (ap (λ z. z.past) here ∙ past_goes u.seen p.there call p.local p.each_local p.goes) s
      (subst (λ z. step_answer (world_of z) call ≡ Ok s) (sym here) p.answer)

  pub moves : (s : Stepped) → Proceeds u call s w → IsMoved s
  moves (Moved a) p = tt
  moves (Blocked x d) p = unmoved (Blocked x d) p p.then
  moves Over p = unmoved Over p p.then

-- ---- after the last turn

pub arrived : (v w : CoreValue) (requests : List Request) → AreTurnsTo v w requests [] → IsReached w → w.past ≡ v.past
arrived v w requests to reached =
    let in_tree : Reached v.parents v.opening (world_of w) = subst (λ o. Reached v.parents o (world_of w)) to.opening (subst (λ p. Reached p w.opening (world_of w)) to.parents reached.reached) in
    sym (same_history v.parents v.opening to.reached.sound.tree to.reached.sound.size v.past w.past (world_of v) (world_of w) to.reached.reached in_tree refl refl
    (λ c lt lt'. same_meaning v w requests to.parents to.procedures to.asked to.asked_now c (let counted = to.reached.counted in omega arith) (let counted = reached.counted in omega arith)) to.took)

-- ---- one turn further

pub further : (v u w : CoreValue) (requests : List Request) (call : ℕ) (later : List ℕ) → AreTurnsTo v u requests (call ∷ later)
    → map caller w.past ≡ call ∷ map caller u.past → Fits w requests → GoesOn u w → AreTurnsTo v w requests later
further v u w requests call later to turn fits on = record {
  reached = to.reached;
  parents = on.parents ∙ to.parents;
  opening = on.opening ∙ to.opening;
  procedures = on.procedures ∙ to.procedures;
  limit = subst (λ n. v.limit ≤ n) (sym on.limit) to.limit;
  asked = to.asked;
  asked_now = fits;
  took = to.took ∙ ap (λ l. l ++ map caller u.past) (reverse-append (call ∷ []) later) ∙ append_assoc (reverse later) (call ∷ []) (map caller u.past) ∙ ap (λ l. reverse later ++ l) (sym turn);
}

-- only memory is refused where there is no other reason
pub only_memory : (e : CoreFault) → (e ≢ fault.Memory → None ≡ Some e) → e ≡ fault.Memory
only_memory fault.Memory refused = refl
only_memory fault.WrongArgs refused = absurd (let clash = refused (λ same. absurd cc) in absurd cc)
only_memory fault.NoProcedure refused = absurd (let clash = refused (λ same. absurd cc) in absurd cc)
only_memory fault.NoCall refused = absurd (let clash = refused (λ same. absurd cc) in absurd cc)
only_memory fault.TooManyCalls refused = absurd (let clash = refused (λ same. absurd cc) in absurd cc)
only_memory fault.TooManyOpen refused = absurd (let clash = refused (λ same. absurd cc) in absurd cc)
only_memory fault.HistoryFull refused = absurd (let clash = refused (λ same. absurd cc) in absurd cc)
only_memory (fault.NotAtRest call) refused = absurd (let clash = refused (λ same. absurd cc) in absurd cc)
only_memory fault.NotFrom refused = absurd (let clash = refused (λ same. absurd cc) in absurd cc)
