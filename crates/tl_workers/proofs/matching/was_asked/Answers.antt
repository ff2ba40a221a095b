use Rattle.std.proofs.Common.{◌≡◌, ⊎_elim, ◌<◌, ◌-◌, refl, sym, subst, arith}
use Rattle.std.proofs.Math.Nat.{eq-or-lt_of_le}
use Rattle.tl_workers.specs.Kept.{AsksAt}
use Rattle.tl_workers.proofs.Askings.{was_asked_at, asked_before}
use Rattle.tl_workers.proofs.matching.was_asked.Goals as goal

pub returns-then-asks_at : goal.returns-then-asks_at
returns-then-asks_at c =
    ((λ t. was_asked_at c.args.session.now.kept c.args.place (c.loop-left.left - 1) c.args.epoch c.args.call (omega (arith, c.loop-left.invariant.0, c.loop-left-test.true)) (c.asks_at.ensures.0 c.if-asks_at.true)), (λ h. refl))

pub loop-left-preserved : goal.loop-left-preserved
loop-left-preserved c = (
  omega (arith, c.loop-left.invariant.0),
  (λ i le lt asks. ⊎_elim
      (λ (e : c.loop-left.left - 1 ≡ i). let h = c.asks_at.ensures.1 (subst (λ k. AsksAt c.args.session.now.kept k c.args.epoch c.args.call) (sym e) asks) in let f = c.if-asks_at.false in let r : ⊥ = cc in r)
      (λ (l : c.loop-left.left - 1 < i). c.loop-left.invariant.1 i (omega (arith, l)) lt asks)
      (eq-or-lt_of_le le)),
)

pub returns : goal.returns
returns c = (
  (λ t. absurd (let e : ⊥ = cc in e)),
  (λ h. let w = asked_before c.args.session.now.kept c.args.place c.args.epoch c.args.call h in absurd (c.loop-left.invariant.1 w.0 (omega (arith, c.loop-left-test.false)) w.1 w.2)),
)
