-- Each push, each pop and each new pass keeps the rule of the queue.
use Rattle.std.proofs.Common.{◌≡◌, ℕ, zero, suc, ◌+◌, List, [], ◌∷◌, ◌++◌, set, sym, refl, ap, arith}
use mathlib.Core.Option.{some, some-ne-none, some_inj}
use lib.ListN.{get_elem?}
use Rattle.crossbeam_queue.specs.Fifo.{Pushes, Pops, Admits}
use Rattle.tl_ready.specs.declared.rule.Handed.{Handed}
use Rattle.tl_ready.specs.Rule.{times, total, IsBalanced, handed}

pub times-append : (x : ℕ) (xs ys : List ℕ) → times x (xs ++ ys) ≡ times x xs + times x ys
times-append x [] ys = omega arith
times-append x (y ∷ xs) ys = omega (arith, times-append x xs ys)

pub total_set : (f : Handed → ℕ) (views : List Handed) (port : ℕ) (v w : Handed) → get_elem? views port ≡ some v → total f (set views port w) + f v ≡ total f views + f w
total_set f [] port v w e = absurd (some-ne-none v (sym e))
total_set f (u ∷ us) zero v w e = let same : u ≡ v = (some_inj).0 e in omega (arith, ap f same)
total_set f (u ∷ us) (suc port) v w e = omega (arith, total_set f us port v w e)

pub total-append : (f : Handed → ℕ) (vs ws : List Handed) → total f (vs ++ ws) ≡ total f vs + total f ws
total-append f [] ws = omega arith
total-append f (v ∷ vs) ws = omega (arith, total-append f vs ws)

pub pushes : (n port : ℕ) (v : Handed) (x : ℕ) → Pushes IsBalanced n port v x (λ w. w ≡ handed (v.pushed ++ x ∷ []) v.popped)
pushes n port v x items views room b at =
    let w : Handed = handed (v.pushed ++ x ∷ []) v.popped in (
      w,
      (λ y.
          let p = total_set (λ u. times y u.pushed) views port v w at in
          let q = total_set (λ u. times y u.popped) views port v w at in
          omega (arith, p, q, b y, times-append y v.pushed (x ∷ []), times-append y items (x ∷ []))),
      refl,
    )

pub pops : (port : ℕ) (v : Handed) → Pops IsBalanced port v (λ x w. w ≡ handed v.pushed (v.popped ++ x ∷ []))
pops port v x items views b at =
    let w : Handed = handed v.pushed (v.popped ++ x ∷ []) in (
      w,
      (λ y.
          let p = total_set (λ u. times y u.pushed) views port v w at in
          let q = total_set (λ u. times y u.popped) views port v w at in
          omega (arith, p, q, b y, times-append y v.popped (x ∷ []))),
      refl,
    )

-- a new pass has empty lists
pub admits : Admits IsBalanced (handed [] [])
admits items views b y =
    omega (arith, b y, total-append (λ u. times y u.pushed) views (handed [] [] ∷ []), total-append (λ u. times y u.popped) views (handed [] [] ∷ []))
