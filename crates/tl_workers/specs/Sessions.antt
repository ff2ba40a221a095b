-- All sessions of a table together, and what their calls find.
use Rattle.std.specs.Prelude.{◌≡◌, ◌⊎◌, ℕ, ◌<◌, ◌==◌, ◌&&◌, Bool, false, List, Some, slice_get, sum_by, count_by}
use Rattle.tl_table.specs.Across.{LockedIn, FindsAcross}
use Rattle.tl_table.specs.Epochs.{EpochValue, IsKnown}
use Rattle.tl_table.specs.Finding.{FindsWhatWasLeft}
use Rattle.tl_table.specs.declared.receipt.Receipt.{Receipt}
use Rattle.tl_workers.specs.declared.asking.Asking.{Asking}
use Rattle.tl_workers.specs.declared.session.Did.{Did}
use Rattle.tl_workers.specs.declared.session.Did.TheVariants.{Asked, Got}
use Rattle.tl_workers.specs.Kept.{SessionValue}
use Rattle.tl_workers.specs.Matching.{past_at}

-- whether the entry requests call c of epoch n
abbrev pub asks_for : ℕ → ℕ → Did → Bool
asks_for n c (Asked a) = (a.epoch == n) && (a.call == c)
asks_for n c (Got r) = false

-- how often the session requested call c of epoch n
abbrev pub times_asked : ℕ → ℕ → SessionValue → ℕ
times_asked n c s = count_by (asks_for n c) s.kept

-- each session that the table has opened is in the list exactly once
abbrev pub AreAllOf : List EpochValue → List SessionValue → Type 0
AreAllOf es sessions = (i k : ℕ) (e : EpochValue) → slice_get es i ≡ Some e → k < e.sessions → count_by (λ s. k == s.number) sessions ≡ 1

-- each call was requested exactly once by all sessions together
abbrev pub AskForEachOnce : List EpochValue → List SessionValue → Type 0
AskForEachOnce es sessions = (n c : ℕ) (e : EpochValue) → slice_get es n ≡ Some e → IsKnown e c → sum_by (times_asked n c) sessions ≡ 1

-- call b of epoch m found at x what call a of epoch n left there, or what was left there since
abbrev pub FindsLeft : List EpochValue → ℕ → ℕ → ℕ → ℕ → ℕ → Type 0
FindsLeft es n a m b x = ((n ≡ m) × FindsWhatWasLeft (past_at es n) a b x) ⊎ ((n < m) × FindsAcross es n a m b x)

-- If the session received a receipt before it requested a call, and both calls locked x, the later call found at x what
-- the earlier one left, or what was left there since.
unfoldable pub FindsItsWrites : List EpochValue → SessionValue → Type 0
FindsItsWrites es s =
    (i j : ℕ) (r : Receipt) (a : Asking) (x : ℕ) → i < j → slice_get s.kept i ≡ Some (Got r) → slice_get s.kept j ≡ Some (Asked a)
    → LockedIn es r.epoch r.call x → LockedIn es a.epoch a.call x → FindsLeft es r.epoch r.call a.epoch a.call x
