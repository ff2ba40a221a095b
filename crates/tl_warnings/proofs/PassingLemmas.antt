-- What may be passed, in the places where code finds it.
use Rattle.std.proofs.Common.{◌≡◌, ℕ, ◌+◌, ◌<◌, List, length, get_or, take, Bool, Option, subst}
use Rattle.tl_syntax.specs.declared.parsed.Statement.{Statement}
use Rattle.tl_warnings.specs.Passing.{BlockPasses, NextPasses, more_statements}
use Rattle.tl_warnings.proofs.ListLemmas.{taken_more}

pub block_at : {x : ℕ} {b : Bool} {ss ts : List Statement} {p : Option Bool} → ss ≡ ts → BlockPasses x b ss p → BlockPasses x b ts p
block_at {x} {b} {p = p} is = subst (λ z. BlockPasses x b z p) is

pub begins_at : {x : ℕ} {b c : Bool} {ss : List Statement} {p : Option Bool} → b ≡ c → BlockPasses x b ss p → BlockPasses x c ss p
begins_at {x} {ss = ss} {p = p} is = subst (λ z. BlockPasses x z ss p) is

pub block_more : {x : ℕ} {b : Bool} {p q : Option Bool} (ss : List Statement) (i : ℕ) (s : Statement) → i < length ss → s ≡ get_or ss i s → BlockPasses x b (take i ss) p
    → NextPasses x p s.form q → BlockPasses x b (take (i + 1) ss) q
block_more {x} {b} {q = q} ss i s inside is before here = taken_more (λ z. BlockPasses x b z q) ss i s inside is (more_statements s before here)
