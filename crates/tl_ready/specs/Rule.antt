-- What is true of the queue.
use Rattle.std.specs.Prelude.{◌≡◌, ℕ, ◌+◌, ◌==◌, if◌then◌else◌, List, [], ◌∷◌}
use Rattle.tl_ready.specs.declared.rule.Handed.{Handed}

-- how often the number occurs in the list
abbrev pub times : ℕ → List ℕ → ℕ
times x [] = 0
times x (y ∷ ys) = (if y == x then 1 else 0) + times x ys

-- the sum of f over all passes
abbrev pub total : (Handed → ℕ) → List Handed → ℕ
total f [] = 0
total f (v ∷ vs) = f v + total f vs

-- for each number, its pushes are as many as its pops and its occurrences in the queue together
abbrev pub IsBalanced : List ℕ → List Handed → Type 0
IsBalanced items passes = (x : ℕ) → total (λ v. times x v.pushed) passes ≡ total (λ v. times x v.popped) passes + times x items

abbrev pub handed : List ℕ → List ℕ → Handed
handed pushed popped = record { pushed = pushed; popped = popped }
