-- One epoch of a table as callers see it, and which receipts are valid in it.
use Rattle.std.specs.Prelude.{◌≡◌, ◌≢◌, ℕ, ◌+◌, ◌<◌, true, List, [], ◌∷◌, ◌++◌, length, get_or, Option, Some, None, option_map, if◌then◌else◌, nat_lt, ℤ}
use Rattle.tl_tree_locking.specs.History.{is_done, AllDone}
use Rattle.tl_tree_locking.specs.World.{reply_of}
use Rattle.tl_procedures.specs.Names.{Named, BeginsWith}
use Rattle.tl_core.specs.Cores.{CoreState, CoreValue, IsSealFault, opened_after, kept_turn, call_of, world_of}
use Rattle.tl_core.specs.Entries.{admission_refusal, after_admission}
use Rattle.tl_table.specs.declared.fault.TableFault.{TableFault}
use Rattle.tl_table.specs.declared.fault.TableFault.TheVariants as fault
use Rattle.tl_table.specs.declared.receipt.Receipt.{Receipt}

-- its number, its core, the number of sessions that the table had opened by then, and the session of each call
pub record EpochValue : Type 0 where
  pub number : ℕ
  pub core : CoreState
  pub sessions : ℕ
  pub owners : List ℕ

-- the core as callers see it
abbrev pub seen : EpochValue → CoreValue
seen t = t.core.seen

abbrev pub owner_of : EpochValue → ℕ → ℕ
owner_of t c = get_or t.owners c 0

-- a call with this number was admitted
abbrev pub IsKnown : EpochValue → ℕ → Type 0
IsKnown t c = c < length (seen t).calls

-- each call has a session, and the session had been opened
pub record AreOwned (t : EpochValue) : Type 0 where
  pub each : length t.owners ≡ length (seen t).calls
  pub given : (c : ℕ) → IsKnown t c → owner_of t c < t.sessions

-- the receipt is of this epoch; its call is done and has the receipt's session, procedure, arguments and reply
pub record Stands (t : EpochValue) (r : Receipt) : Type 0 where
  pub epoch : r.epoch ≡ t.number
  pub known : IsKnown t r.call
  pub done : is_done r.call (seen t).past ≡ true
  pub session : r.session ≡ owner_of t r.call
  pub procedure : r.procedure ≡ (call_of (seen t) r.call).procedure
  pub args : r.args.items ≡ (call_of (seen t) r.call).args
  pub reply : r.reply.items ≡ reply_of (world_of (seen t)) r.call

-- every call is done
abbrev pub IsAtRest : EpochValue → Type 0
IsAtRest t = AllDone (seen t).past

-- It is the same epoch at a later time, with the same opening tree and possibly more procedures.
pub record GoesOn (t u : EpochValue) : Type 0 where
  pub number : u.number ≡ t.number
  pub parents : (seen u).parents ≡ (seen t).parents
  pub opening : (seen u).opening ≡ (seen t).opening
  pub procedures : BeginsWith (seen t).procedures (seen u).procedures

-- why a call isn't admitted: there is no such session, or the core refuses the call
abbrev pub table_refusal : EpochValue → ℕ → List ℕ → List ℤ → Option TableFault
table_refusal t session name args =
    if nat_lt session t.sessions then option_map fault.Core (admission_refusal (seen t) name args) else Some fault.NoSession

-- the first reason to refuse the admission; memory is refused only if there is no other reason
abbrev pub IsAdmitFault : EpochValue → ℕ → List ℕ → List ℤ → TableFault → Type 0
IsAdmitFault t session name args e =
    (e ≢ fault.Memory → table_refusal t session name args ≡ Some e) × (e ≡ fault.Memory → table_refusal t session name args ≡ None)

-- Call n was admitted for this session. n is the next number, and there was no reason to refuse it. The second epoch has one more call, this one.
pub record IsAdmittedTo (t : EpochValue) (session : ℕ) (name : List ℕ) (args : List ℤ) (n : ℕ) (u : EpochValue) : Type 0 where
  pub next : n ≡ length (seen t).calls
  pub free : table_refusal t session name args ≡ None
  pub core : seen u ≡ after_admission (seen t) name args
  pub turns : (c : ℕ) → IsKnown t c → kept_turn u.core c ≡ kept_turn t.core c
  pub owners : u.owners ≡ t.owners ++ session ∷ []
  pub sessions : u.sessions ≡ t.sessions
  pub goes_on : GoesOn t u

-- the epoch that follows one at rest
abbrev pub epoch_after : EpochValue → EpochValue
epoch_after t = record { number = t.number + 1; core = opened_after (seen t); sessions = t.sessions; owners = [] }

-- why an epoch isn't sealed: a call isn't done, or memory was refused
abbrev pub IsEpochSealFault : EpochValue → TableFault → Type 0
IsEpochSealFault t (fault.Core f) = IsSealFault (seen t) f
IsEpochSealFault t fault.Memory = IsAtRest t
IsEpochSealFault t _ = ⊥
