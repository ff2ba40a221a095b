use Rattle.std.proofs.Common.{◌≡◌, ◌∙◌, length, refl, subst, sym, arith}
use Rattle.tl_workers.specs.Matching.{AreKnown}
use Rattle.tl_workers.proofs.Turns.{IsInTurnSoFar, turn_more, turn_fails, turn_all}
use Rattle.tl_workers.proofs.matching.go_in_turn.Goals as goal

pub begun_after-requires-clause-known : goal.begun_after-requires-clause-known
unfolding AreKnown
begun_after-requires-clause-known c = c.requires.known c.loop-i.i c.entry.result c.entry.ensures

pub begun_after-requires-clause-few : goal.begun_after-requires-clause-few
begun_after-requires-clause-few c = c.requires.chain.few

pub returns-in_default : goal.returns-in_default
returns-in_default c = (
  (λ h. absurd (let e : ⊥ = cc in e)),
  (λ h. absurd (turn_fails c.args.chain.now c.args.session.now.kept c.requires.chain c.requires.known _ _ c.entry.result c.loop-i.invariant c.entry.ensures (sym c.begun_after.ensures ∙ c.in_default.is) h)),
)

pub loop-i-preserved : goal.loop-i-preserved
loop-i-preserved c =
    turn_more c.args.chain.now c.args.session.now.kept c.requires.chain c.requires.known _ _ _ c.entry.result c.loop-i.invariant c.entry.ensures (sym c.begun_after.ensures ∙ c.in-Some.is)

pub returns : goal.returns
returns c =
    let all : c.loop-i.i ≡ length c.args.session.now.kept = omega (arith, c.loop-i-test.false, c.loop-i.auto.i-end, c.len-i-end.ensures) in
    ((λ h. turn_all c.args.chain.now c.args.session.now.kept c.requires.chain c.requires.known _ (subst (λ n. IsInTurnSoFar c.args.chain.now c.args.session.now.kept n c.loop-i.begun) all c.loop-i.invariant)), (λ h. refl))
