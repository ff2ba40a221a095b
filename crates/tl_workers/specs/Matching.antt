-- A session's entries compared with the epochs of a table.
use Rattle.std.specs.Prelude.{◌≡◌, ◌≢◌, ℕ, ◌+◌, ◌*◌, ◌<◌, ◌==◌, ◌⊎◌, if◌then◌else◌, List, [], ◌∷◌, ◌++◌, Option, Some, None, take, drop, slice_get, max, nat_lt}
use Rattle.std.specs.Option.{option_map_or}
use Rattle.tl_history.specs.declared.history.TheConstants.{MAX_CALLS}
use Rattle.tl_tree_locking.specs.declared.event.Event.{Event}
use Rattle.tl_core.specs.Cores.{call_of}
use Rattle.tl_core.specs.Entries.{procedure_at}
use Rattle.tl_table.specs.Ends.{EndsBefore, begun_by_end}
use Rattle.tl_table.specs.Epochs.{EpochValue, seen, IsKnown, Stands, IsAtRest}
use Rattle.tl_table.specs.Tables.{TableValue, all_epochs}
use Rattle.tl_table.specs.declared.receipt.Receipt.{Receipt}
use Rattle.tl_workers.specs.declared.asking.Asking.{Asking}
use Rattle.tl_workers.specs.declared.session.Did.{Did}
use Rattle.tl_workers.specs.declared.session.Did.TheVariants.{Asked, Got}
use Rattle.tl_workers.specs.Kept.{SessionValue, asking}

-- the requests, in order
abbrev pub asked_in : List Did → List Asking
asked_in [] = []
asked_in (Asked a ∷ dids) = a ∷ asked_in dids
asked_in (Got r ∷ dids) = asked_in dids

-- the requests from a place on
abbrev pub asked_from : List Did → ℕ → List Asking
asked_from dids place = asked_in (drop place dids)

-- a call of an epoch as its request: the name of its procedure, and its arguments
abbrev pub asking_of : EpochValue → ℕ → Asking
asking_of e c = asking e.number c (procedure_at (seen e) (call_of (seen e) c).procedure).name (call_of (seen e) c).args

-- the calls of session s by rising number, where `owners` are the sessions of the calls from n on
abbrev pub calls_from : EpochValue → ℕ → List ℕ → ℕ → List Asking
calls_from e n [] s = []
calls_from e n (o ∷ owners) s =
    if o == s then asking_of e n ∷ calls_from e (n + 1) owners s else calls_from e (n + 1) owners s

abbrev pub calls_of : EpochValue → ℕ → List Asking
calls_of e s = calls_from e 0 e.owners s

-- the same for all epochs, one after another
abbrev pub all_calls_of : List EpochValue → ℕ → List Asking
all_calls_of [] s = []
all_calls_of (e ∷ es) s = calls_of e s ++ all_calls_of es s

abbrev pub WasAsked : List Did → ℕ → ℕ → Type 0
WasAsked dids e c = (j : ℕ) × (a : Asking) × (slice_get dids j ≡ Some (Asked a)) × (a.epoch ≡ e) × (a.call ≡ c)

-- the receipt is valid in the epoch that it gives
abbrev pub StandsIn : List EpochValue → Receipt → Type 0
StandsIn es r = (e : EpochValue) × (slice_get es r.epoch ≡ Some e) × Stands e r

-- a receipt is valid, and its call was requested earlier
abbrev pub IsBacked : List EpochValue → Did → List Did → Type 0
IsBacked es (Asked a) before = Unit {0}
IsBacked es (Got r) before = StandsIn es r × WasAsked before r.epoch r.call

unfoldable pub GotsStand : List EpochValue → List Did → Type 0
GotsStand es dids = (i : ℕ) (did : Did) → slice_get dids i ≡ Some did → IsBacked es did (take i dids)

-- the history of epoch n
abbrev pub past_at : List EpochValue → ℕ → List Event
past_at es n = option_map_or (λ e. (seen e).past) (slice_get es n) []

-- the receipt's call had ended before the other call was admitted: in an earlier epoch, or earlier in the same history
abbrev pub HasEnded : List EpochValue → Receipt → Asking → Type 0
HasEnded es r a = (r.epoch < a.epoch) ⊎ ((r.epoch ≡ a.epoch) × EndsBefore (past_at es r.epoch) r.call a.call)

-- a call whose receipt came before a request had ended before the requested call was admitted
unfoldable pub GoInTurn : List EpochValue → List Did → Type 0
GoInTurn es dids =
    (i j : ℕ) (r : Receipt) (a : Asking) → i < j → slice_get dids i ≡ Some (Got r) → slice_get dids j ≡ Some (Asked a)
    → HasEnded es r a

-- The requests are exactly the session's calls, epoch by epoch. Each receipt is valid. A call that was requested after a
-- receipt was admitted after the receipt's call had ended.
pub record Matches (es : List EpochValue) (s : SessionValue) : Type 0 where
  pub asked : asked_in s.kept ≡ all_calls_of es s.number
  pub gots : GotsStand es s.kept
  pub in_turn : GoInTurn es s.kept

-- x isn't the first element of the list
abbrev pub IsNotFirst : List Asking → Asking → Type 0
IsNotFirst xs x = (rest : List Asking) → xs ≢ x ∷ rest

-- a receipt is valid, and a requested call belongs to its epoch
abbrev pub IsKnownEntry : List EpochValue → Did → Type 0
IsKnownEntry es (Asked a) = (e : EpochValue) × (slice_get es a.epoch ≡ Some e) × IsKnown e a.call
IsKnownEntry es (Got r) = StandsIn es r

unfoldable pub AreKnown : List EpochValue → List Did → Type 0
AreKnown es dids = (i : ℕ) (did : Did) → slice_get dids i ≡ Some did → IsKnownEntry es did

-- one number for an epoch and a number of calls in it, which orders first by epoch and then by calls
abbrev pub mark : ℕ → ℕ → ℕ
mark epoch count = epoch * (MAX_CALLS + 1) + count

-- the mark of the calls that had been admitted when the receipt's call ended
abbrev pub end_mark : List EpochValue → Receipt → ℕ
end_mark es r = mark r.epoch (begun_by_end r.call (past_at es r.epoch))

-- the highest end mark of the receipts, after one more entry; None if the entry requests a call that was admitted before the highest mark so far
abbrev pub begun_after : List EpochValue → Did → ℕ → Option ℕ
begun_after es (Got r) begun = Some (max begun (end_mark es r))
begun_after es (Asked a) begun = if nat_lt (mark a.epoch a.call) begun then None else Some begun

-- a call isn't done, or a session's entries don't match the epochs
abbrev pub DoesNotClose : TableValue → List SessionValue → Type 0
DoesNotClose t sessions =
    (¬ IsAtRest t.current) ⊎ ((i : ℕ) × (s : SessionValue) × (slice_get sessions i ≡ Some s) × ¬ Matches (all_epochs t) s)
