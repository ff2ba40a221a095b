use Rattle.std.proofs.Common.{◌≡◌, ◌<◌, ⊎_elim, sym, ap, ◌∙◌, subst, refl, arith}
use Rattle.std.proofs.Math.Nat.{eq-or-lt_of_le}
use Rattle.std.specs.Prelude.{slice_get, take, ℕ}
use Rattle.std.proofs.lemmas.Option.{same_Some, slice_get_within}
use Rattle.tl_workers.specs.Matching.{IsBacked, GotsStand}
use Rattle.tl_workers.proofs.matching.gots_stand.Goals as goal

pub returns-then-not-is_backed : goal.returns-then-not-is_backed
unfolding GotsStand
returns-then-not-is_backed c = (
  (λ t. absurd (let e : ⊥ = cc in e)),
  (λ g. absurd (let t = c.is_backed.ensures.1 (g c.loop-i.i c.entry.result c.entry.ensures) in let e : ⊥ = cc in e)),
)

pub loop-i-preserved : goal.loop-i-preserved
loop-i-preserved c k did lt at = ⊎_elim
    (λ (e : k ≡ c.loop-i.i).
    let here = same_Some c.entry.result did (sym c.entry.ensures ∙ ap (slice_get c.args.session.now.kept) (sym e) ∙ at) in
    let P : ℕ → Type 0 = λ n. IsBacked c.args.chain.now did (take n c.args.session.now.kept) in
    subst P (sym e) (subst (λ d. IsBacked c.args.chain.now d (take c.loop-i.i c.args.session.now.kept)) here (c.is_backed.ensures.0 c.if-not-is_backed.false)))
    (λ (l : k < c.loop-i.i). c.loop-i.invariant k did l at)
    (eq-or-lt_of_le (omega (arith, lt)))

pub returns : goal.returns
unfolding GotsStand
returns c = (
  (λ t i did at. let l = slice_get_within c.args.session.now.kept i did at in c.loop-i.invariant i did (omega (arith, l, c.loop-i-test.false)) at),
  (λ g. refl),
)
