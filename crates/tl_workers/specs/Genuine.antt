-- What sessions had, and nothing that was made up. No other crate can name this file.
use Rattle.tl_workers.specs.Kept.{SessionValue}

-- A session had this value at some time. This doesn't unfold elsewhere, so that no proof shows it of a value that somebody made up.
pub WasSession : SessionValue → Type 0
WasSession s = Unit {0}

-- for `Session::lemma_was_session` alone
pub was_session : (s : SessionValue) → WasSession s
unfolding WasSession
was_session s = tt
