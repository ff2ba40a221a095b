-- Loops over children, in the places where code finds them.
use Rattle.std.proofs.Common.{◌≡◌, ℕ, ◌+◌, ◌<◌, ◌≤◌, List, length, get_or, take, Bool, Option, subst}
use Rattle.tl_syntax.specs.declared.parsed.Statement.{Statement}
use Rattle.tl_warnings.specs.declared.warning.Warning.{Warning}
use Rattle.tl_warnings.specs.Passing.{NextPasses}
use Rattle.tl_warnings.specs.Walking.{BlockWalks, all_statements, AreWalks, NextWalks, more_statements}
use Rattle.tl_warnings.proofs.ListLemmas.{taken_more, taken_all}

pub block_at : {x : ℕ} {b : Bool} {ss ts : List Statement} {ws vs us : List Warning} → ss ≡ ts → ws ≡ vs → BlockWalks x b ss ws us → BlockWalks x b ts vs us
block_at {x} {b} {ss} {ts} {ws} {vs} {us} is same block = subst (λ z. BlockWalks x b ts z us) same (subst (λ z. BlockWalks x b z ws us) is block)

pub begins_at : {x : ℕ} {b c : Bool} {ss : List Statement} {ws us : List Warning} → b ≡ c → BlockWalks x b ss ws us → BlockWalks x c ss ws us
begins_at {x} {ss = ss} {ws = ws} {us = us} is = subst (λ z. BlockWalks x z ss ws us) is

pub walks_more : {x : ℕ} {b : Bool} {ws vs us : List Warning} {p q : Option Bool} (ss : List Statement) (i : ℕ) (s : Statement) → i < length ss → s ≡ get_or ss i s → AreWalks x b ws (take i ss) p vs
    → NextWalks x p s.offset s.form vs us → NextPasses x p s.form q → AreWalks x b ws (take (i + 1) ss) q us
walks_more {x} {b} {ws} {us = us} {q = q} ss i s inside is before here next = taken_more (λ z. AreWalks x b ws z q us) ss i s inside is (more_statements s before here next)

pub walks_end : {x : ℕ} {b : Bool} {ws us : List Warning} {p : Option Bool} (ss : List Statement) (i : ℕ) → length ss ≤ i → AreWalks x b ws (take i ss) p us → BlockWalks x b ss ws us
walks_end {x} {b} {ws} {us} {p} ss i past before = all_statements (taken_all (λ z. AreWalks x b ws z p us) ss i past before)
