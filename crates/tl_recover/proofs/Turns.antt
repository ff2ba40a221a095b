-- What a turn of a call changes.
use Rattle.std.proofs.Common.{inl, inr, ◌≡◌, ◌<◌, ℕ, ℤ, List, [], ◌∷◌, ◌++◌, length, map, refl, sym, ap, ◌∙◌, subst, arith, Option, Some, None, slice_get, get_or, set, Ok, string_bytes}
use Rattle.std.specs.Option.{option_map_or}
use Rattle.std.proofs.Math.ListN.{get_or-map, get_or-append}
use Rattle.std.proofs.lemmas.Bool.{cases_eq}
use Rattle.std.proofs.lemmas.List.{map-set, set-get_or, length-map, length-append}
use Rattle.tl_instr.specs.Codes.{CodeValue}
use Rattle.tl_tree_locking.specs.declared.action.Action.{Action}
use Rattle.tl_tree_locking.specs.declared.action.Action.TheVariants as did
use Rattle.tl_tree_locking.specs.declared.event.Event.{Event}
use Rattle.tl_tree_locking.specs.declared.event.Event.TheVariants.{Lock, Free, Done}
use Rattle.tl_tree_locking.specs.History.{caller}
use Rattle.tl_tree_locking.specs.World.{past_after}
use Rattle.tl_machine.specs.BetweenSteps.{IsLocal}
use Rattle.tl_procedures.specs.declared.request.Request.{Request}
use Rattle.tl_procedures.specs.Names.{number_of}
use Rattle.tl_core.specs.declared.stepped.Stepped.{Stepped}
use Rattle.tl_core.specs.declared.stepped.Stepped.TheVariants.{Moved, Blocked, Over}
use Rattle.tl_core.specs.Cores.{CoreState, CoreValue, CallValue, no_call, call_of}
use Rattle.tl_core.specs.Entries.{after_step, one_more, procedure_at, with_call_of, after_admission, admission_refusal, refusal_of}
use Rattle.tl_core.specs.Followed.{Goes, EachLocal, IsNoLocal, Proceeds}
use Rattle.tl_recover.specs.Redriven.{IsAsked, Fits, GoesOn}

-- the procedure, the code and the arguments of a call
abbrev pub ask : CallValue → ℕ × CodeValue × List ℤ
ask c = (c.procedure, c.code, c.args)

-- the same tree and procedures, and the same calls
pub record Keeps (v w : CoreValue) : Type 0 where
  pub goes_on : GoesOn v w
  pub asks : map ask w.calls ≡ map ask v.calls

pub goes_on_same : (v : CoreValue) → GoesOn v v
goes_on_same v = record { parents = refl; opening = refl; procedures = refl; limit = refl }

pub goes_on_again : (u v w : CoreValue) → GoesOn u v → GoesOn v w → GoesOn u w
goes_on_again u v w p q = record { parents = q.parents ∙ p.parents; opening = q.opening ∙ p.opening; procedures = q.procedures ∙ p.procedures; limit = q.limit ∙ p.limit }

pub keeps_same : (v : CoreValue) → Keeps v v
keeps_same v = record { goes_on = goes_on_same v; asks = refl }

pub keeps_again : (u v w : CoreValue) → Keeps u v → Keeps v w → Keeps u w
keeps_again u v w p q = record { goes_on = goes_on_again u v w p.goes_on q.goes_on; asks = q.asks ∙ p.asks }

keeps_move : (v : CoreValue) (c : ℕ) (a : Action) → Keeps v (after_step v c (Ok (Moved a)))
keeps_move v c a = record {
  goes_on = record { parents = refl; opening = refl; procedures = refl; limit = refl };
  asks = map-set ask v.calls c (one_more (call_of v c)) ∙ ap (set (map ask v.calls) c) (sym (get_or-map ask v.calls c no_call)) ∙ set-get_or (map ask v.calls) c (ask no_call);
}

pub keeps_step : (v : CoreValue) (c : ℕ) (s : Stepped) → Keeps v (after_step v c (Ok s))
keeps_step v c (Moved a) = keeps_move v c a
keeps_step v c (Blocked x d) = keeps_same v
keeps_step v c Over = keeps_same v

keeps_goes : (v w : CoreValue) (c : ℕ) (local : List Action) → Goes v c local w → Keeps v w
keeps_goes v w c [] goes = subst (Keeps v) goes (keeps_same v)
keeps_goes v w c (a ∷ local) goes = keeps_again v (after_step v c (Ok (Moved a))) w (keeps_move v c a) (keeps_goes (after_step v c (Ok (Moved a))) w c local goes.1)

local_past : (c : ℕ) (a : Action) (past : List Event) → IsLocal a → past_after c a past ≡ past
local_past c (did.Lock x found) past h = absurd h
local_past c (did.Free x left) past h = absurd h
local_past c did.End past h = absurd h
local_past c (did.Read x f n) past h = refl
local_past c (did.Write x f n) past h = refl
local_past c (did.Emit n) past h = refl
local_past c did.Plain past h = refl

pub past_goes : (v w : CoreValue) (c : ℕ) (local : List Action) → EachLocal local → Goes v c local w → w.past ≡ v.past
past_goes v w c [] each goes = sym (ap (λ u. u.past) goes)
past_goes v w c (a ∷ local) each goes = past_goes (after_step v c (Ok (Moved a))) w c local each.1 goes.1 ∙ local_past c a v.past each.0

pub keeps_proceeds : (v w : CoreState) (c : ℕ) (s : Stepped) → Proceeds v c s w → Keeps v.seen w.seen
keeps_proceeds v w c s p =
    subst (Keeps v.seen) (sym p.then) (keeps_again v.seen p.there (after_step p.there c (Ok s)) (keeps_goes v.seen p.there c p.local p.goes) (keeps_step p.there c s))

-- a lock, a free or an end is an event of its call
event_of : (c : ℕ) (a : Action) (past : List Event) → (IsLocal a → ⊥) → (e : Event) × (past_after c a past ≡ e ∷ past) × (caller e ≡ c)
event_of c (did.Lock x found) past h = (Lock x c found, refl, refl)
event_of c (did.Free x left) past h = (Free x c left, refl, refl)
event_of c did.End past h = (Done c, refl, refl)
event_of c (did.Read x f n) past h = absurd (h tt)
event_of c (did.Write x f n) past h = absurd (h tt)
event_of c (did.Emit n) past h = absurd (h tt)
event_of c did.Plain past h = absurd (h tt)

pub turn_proceeds : (v w : CoreState) (c : ℕ) (a : Action) → Proceeds v c (Moved a) w → map caller w.seen.past ≡ c ∷ map caller v.seen.past
turn_proceeds v w c a p =
    let e = event_of c a p.there.past p.is_last in
    ap (λ u. map caller u.past) p.then ∙ ap (map caller) e.1 ∙ ap (λ k. k ∷ map caller p.there.past) e.2
    ∙ ap (λ l. c ∷ map caller l) (past_goes v.seen p.there c p.local p.each_local p.goes)

grows : (c : ℕ) (s : Stepped) (v : CoreValue) → IsNoLocal s → (more : List Event) × ((after_step v c (Ok s)).past ≡ more ++ v.past)
grows c (Moved a) v h = let e = event_of c a v.past h in (e.0 ∷ [], e.1)
grows c (Blocked x d) v h = ([], refl)
grows c Over v h = ([], refl)

-- earlier events don't change
pub past_proceeds : (v w : CoreState) (c : ℕ) (s : Stepped) → Proceeds v c s w → (more : List Event) × (w.seen.past ≡ more ++ v.seen.past)
past_proceeds v w c s p =
    let g = grows c s p.there p.is_last in
    (g.0, ap (λ u. u.past) p.then ∙ g.1 ∙ ap (λ l. g.0 ++ l) (past_goes v.seen p.there c p.local p.each_local p.goes))

-- ---- requests

asked_again : (v w : CoreValue) (requests : List Request) (c : ℕ) (r : Request) → Keeps v w → IsAsked v c r → IsAsked w c r
asked_again v w requests c r keeps is =
    let same : ask (call_of w c) ≡ ask (call_of v c) = sym (get_or-map ask w.calls c no_call) ∙ ap (λ l. get_or l c (ask no_call)) keeps.asks ∙ get_or-map ask v.calls c no_call in record {
      procedure = ap (λ l. number_of l (string_bytes r.name)) keeps.goes_on.procedures ∙ is.procedure ∙ ap (λ a. Some a.0) (sym same);
      code = ap (λ a. a.1) same ∙ is.code ∙ ap (λ a. (get_or v.procedures a.0 Rattle.tl_procedures.specs.Names.no_procedure).code) (sym same) ∙ ap (λ l. (get_or l (call_of w c).procedure Rattle.tl_procedures.specs.Names.no_procedure).code) (sym keeps.goes_on.procedures);
      args = ap (λ a. a.2) same ∙ is.args;
    }

same_length : (v w : CoreValue) → Keeps v w → length w.calls ≡ length v.calls
same_length v w keeps = sym (length-map w.calls ask) ∙ ap length keeps.asks ∙ length-map v.calls ask

pub fits_again : (v w : CoreValue) (requests : List Request) → Keeps v w → Fits v requests → Fits w requests
fits_again v w requests keeps fits =
    let long = same_length v w keeps in record {
      few = let h = fits.few in omega arith;
      each = λ c r known is. asked_again v w requests c r keeps (fits.each c r (omega arith) is);
    }

-- ---- an admission

last_of : {X : Type 0} (xs : List X) (x other : X) → get_or (xs ++ x ∷ []) (length xs) other ≡ x
last_of [] x other = refl
last_of (y ∷ xs) x other = last_of xs x other

module _ (v : CoreValue) (p : ℕ) (r : Request) (requests : List Request) (named : number_of v.procedures (string_bytes r.name) ≡ Some p) (is : slice_get requests (length v.calls) ≡ Some r) where
  abbrev w : CoreValue
  w = with_call_of v p r.args.items

  asked_new : (c : ℕ) (q : Request) → c < length w.calls → slice_get requests c ≡ Some q → (fits : Fits v requests) → IsAsked w c q
  asked_new c q known at fits = elim (cases_eq c (length v.calls)) [
    | inl same ↦
        let new : call_of w c ≡ record { procedure = p; code = (procedure_at v p).code; args = r.args.items; count = 0 } = ap (call_of w) same ∙ last_of v.calls _ no_call in
        let q_is : q ≡ r = (let both : Some q ≡ Some r = sym at ∙ ap (slice_get requests) same ∙ is in cc) in
        record {
          procedure = ap (λ z. number_of v.procedures (string_bytes z.name)) q_is ∙ named ∙ ap (λ z. Some z.procedure) (sym new);
          code = ap (λ z. z.code) new ∙ ap (λ z. (procedure_at v z.procedure).code) (sym new);
          args = ap (λ z. z.args) new ∙ ap (λ z. z.args.items) (sym q_is);
        }
    | inr other ↦
        let long = length-append v.calls (record { procedure = p; code = (procedure_at v p).code; args = r.args.items; count = 0 } ∷ []) in
        let less : c < length v.calls = omega arith in
        let old : call_of w c ≡ call_of v c = get_or-append v.calls _ no_call c less in
        let was = fits.each c q less at in
        record {
          procedure = was.procedure ∙ ap (λ z. Some z.procedure) (sym old);
          code = ap (λ z. z.code) old ∙ was.code ∙ ap (λ z. (procedure_at v z.procedure).code) (sym old);
          args = ap (λ z. z.args) old ∙ was.args;
        }
  ]

  pub fits_new : length v.calls < length requests → Fits v requests → Fits w requests
  fits_new less fits = record {
    few = (let long = length-append v.calls (record { procedure = p; code = (procedure_at v p).code; args = r.args.items; count = 0 } ∷ []) in omega arith);
    each = λ c q known at. asked_new c q known at fits;
  }

pub fits_admission : (v u : CoreValue) (r : Request) (requests : List Request) → admission_refusal v (string_bytes r.name) r.args.items ≡ None → u ≡ after_admission v (string_bytes r.name) r.args.items
    → slice_get requests (length v.calls) ≡ Some r → length v.calls < length requests → Fits v requests → Fits u requests
fits_admission v u r requests free after is less fits = go (number_of v.procedures (string_bytes r.name)) refl free after
  where
    go : (o : Option ℕ) → number_of v.procedures (string_bytes r.name) ≡ o → option_map_or (λ p. refusal_of v (procedure_at v p) r.args.items) o (Some Rattle.tl_core.specs.declared.fault.CoreFault.TheVariants.NoProcedure) ≡ None
        → u ≡ option_map_or (λ p. with_call_of v p r.args.items) o v → Fits u requests
    go (Some p) named none after = subst (λ k. Fits k requests) (sym after) (fits_new v p r requests named is less fits)
    go None named none after = absurd cc
