-- What may lock a child of a node, in the places where code finds it.
use Rattle.std.proofs.Common.{◌≡◌, ℕ, ◌+◌, ◌<◌, List, length, get_or, take, Bool, ◌||◌, subst}
use Rattle.tl_syntax.specs.declared.parsed.Statement.{Statement}
use Rattle.tl_warnings.specs.Locking.{BlockLocks, StatementLocks, more_statements}
use Rattle.tl_warnings.proofs.ListLemmas.{taken_more}

pub block_at : {x : ℕ} {ss ts : List Statement} {r : Bool} → ss ≡ ts → BlockLocks x ss r → BlockLocks x ts r
block_at {x} {r = r} is = subst (λ z. BlockLocks x z r) is

pub block_more : {x : ℕ} {r t : Bool} (ss : List Statement) (i : ℕ) (s : Statement) → i < length ss → s ≡ get_or ss i s → BlockLocks x (take i ss) r → StatementLocks x s.form t
    → BlockLocks x (take (i + 1) ss) (r || t)
block_more {x} {r} {t} ss i s inside is before here = taken_more (λ z. BlockLocks x z (r || t)) ss i s inside is (more_statements s before here)
