use Rattle.tl_core.proofs.ReaderLemmas.{obeys_so_far, steps_so_far, count_so_far, locks_so_far, emits_so_far}
use Rattle.tl_core.proofs.KeptTurns.{turned, turn_of}
use Rattle.tl_core.proofs.interleaving.Core.lemma_is_sound.Goals as goal

pub returns-clause-obeys : goal.returns-clause-obeys
returns-clause-obeys c = rw (← c.self.view_is) (λ d lt. obeys_so_far _ _ _ _ _ _ c.self.invariant.core d lt)

pub returns-clause-steps : goal.returns-clause-steps
returns-clause-steps c = rw (← c.self.view_is) (λ d lt. steps_so_far _ _ _ _ _ _ c.self.invariant.core d lt)

pub returns-clause-counts : goal.returns-clause-counts
returns-clause-counts c = rw (← c.self.view_is) (λ d lt. count_so_far _ _ _ _ _ _ c.self.invariant.core d lt)

pub returns-clause-locks : goal.returns-clause-locks
returns-clause-locks c = rw (← c.self.view_is) (λ d lt. locks_so_far _ _ _ _ _ _ c.self.invariant.core d lt)

pub returns-clause-emits : goal.returns-clause-emits
returns-clause-emits c = rw (← c.self.view_is) (λ d lt. emits_so_far _ _ _ _ _ _ c.self.invariant.core d lt)

pub returns-clause-turned : goal.returns-clause-turned
returns-clause-turned c = rw (← c.self.view_is) (λ d is_open. turned _ _ _ _ _ _ _ c.self.invariant d is_open)

pub returns-clause-turn_of : goal.returns-clause-turn_of
returns-clause-turn_of c = rw (← c.self.view_is) (λ d t kept. turn_of _ _ _ _ _ _ _ c.self.invariant d t kept)
