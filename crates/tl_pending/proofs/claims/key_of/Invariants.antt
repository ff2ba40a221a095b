use Rattle.std.proofs.Common.{◌≡◌, drop}
use Rattle.tl_pending.specs.Claims.{key_of}
use Rattle.tl_pending.proofs.claims.key_of.Given as goal

-- none of the first claims is the session's
abbrev pub invariant-loop-claim : goal.invariant-loop-claim
invariant-loop-claim l = key_of l.claims l.session ≡ key_of (drop l.claim-index l.claims) l.session
