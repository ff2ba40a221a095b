-- How a core came to its value.
use Rattle.std.specs.Prelude.{◌≡◌, ℕ, ◌<◌, ◌≤◌, List, [], ◌∷◌, length, take}
use Rattle.tl_history.specs.declared.history.TheConstants.{MAX_CALLS, MAX_EVENTS}
use Rattle.tl_core.specs.declared.interleaving.TheConstants.{MAX_OPEN}
use Rattle.tl_instr.specs.declared.instr.Instr.{Instr}
use Rattle.tl_verify.specs.Acceptable.{Acceptable}
use Rattle.tl_tree_locking.specs.declared.event.Event.{Event}
use Rattle.tl_tree_locking.specs.declared.event.Event.TheVariants.{Admit, Lock, Free, Done}
use Rattle.tl_tree_locking.specs.History.{admits}
use Rattle.tl_tree_locking.specs.World.{IsSound, Reached}
use Rattle.tl_procedures.specs.Names.{AreFreeAfter}
use Rattle.tl_core.specs.Cores.{CoreValue, call_of, code_of, world_of, open_calls, places, room}
use Rattle.tl_core.specs.Entries.{procedure_at}

-- the core when its history was only this, except for how many instructions its calls had executed then
abbrev pub as_of : CoreValue → List Event → CoreValue
as_of v past = record v { calls = take (admits past) v.calls; past = past }

-- one more call of this code may be admitted: there are fewer than MAX_CALLS calls and fewer than MAX_OPEN open ones, and
-- the history has places for its events
pub record HasRoomFor (v : CoreValue) (code : List Instr) : Type 0 where
  pub few : length v.calls < MAX_CALLS
  pub few_open : open_calls v < MAX_OPEN
  pub enough : places code (length v.parents) ≤ room v

-- for each call admitted in this history there was room then
abbrev pub EachHadRoom : CoreValue → List Event → Type 0
EachHadRoom v [] = Unit {0}
EachHadRoom v (Admit c ∷ past) = HasRoomFor (as_of v past) (code_of v c) × EachHadRoom v past
EachHadRoom v (Lock x c found ∷ past) = EachHadRoom v past
EachHadRoom v (Free x c left ∷ past) = EachHadRoom v past
EachHadRoom v (Done c ∷ past) = EachHadRoom v past

-- call c is of one of the procedures, whose code is accepted, and has as many arguments as that takes
pub record IsFit (v : CoreValue) (c : ℕ) : Type 0 where
  pub known : (call_of v c).procedure < length v.procedures
  pub code : (call_of v c).code ≡ (procedure_at v (call_of v c).procedure).code
  pub accepted : Acceptable (code_of v c)
  pub arity : length (call_of v c).args ≡ (call_of v c).code.arity

-- What is so of the value of every core. Admissions and steps led to its world. It is within the limits, its procedures
-- have names of their own, its calls fit, and for each of them there was room when it was admitted.
pub record IsReached (v : CoreValue) : Type 0 where
  pub sound : IsSound (world_of v)
  pub reached : Reached v.parents v.opening (world_of v)
  pub counted : length v.calls ≡ admits v.past
  pub few : length v.calls ≤ MAX_CALLS
  pub few_events : v.limit ≤ MAX_EVENTS
  pub named : AreFreeAfter [] v.procedures
  pub fit : (c : ℕ) → c < length v.calls → IsFit v c
  pub had_room : EachHadRoom v v.past
