use Rattle.std.proofs.Common.{◌++◌, ◌∙◌, ap, sym, arith}
use Rattle.std.proofs.lemmas.List.{append_assoc}
use Rattle.tl_recover.proofs.Finished.{one_turn, few_executed}
use Rattle.tl_recover.proofs.Turns.{goes_on_again, fits_again, keeps_proceeds, past_proceeds}
use Rattle.tl_recover.proofs.redriving.finish.Goals as goal

pub loop-preserved : goal.loop-preserved
loop-preserved c =
    let now = c.in-Ok.ensures.proceeds in
    let keeps = keeps_proceeds c.loop.core c.proceed.new.self c.in-Some.call _ now in
    let more = past_proceeds c.loop.core c.proceed.new.self c.in-Some.call _ now in
    let turns = one_turn c.loop.core c.proceed.new.self c.in-Some.call _ c.lemma_is_reached.ensures c.in-Some.ensures.enabled now in
    let so_far = c.loop.invariant.3 in (
      (more.0 ++ c.loop.invariant.0.0, more.1 ∙ ap (λ l. more.0 ++ l) c.loop.invariant.0.1 ∙ sym (append_assoc more.0 c.loop.invariant.0.0 _)),
      goes_on_again _ _ _ c.loop.invariant.1 keeps.goes_on,
      (λ requests fits. fits_again c.loop.core.seen c.proceed.new.self.seen requests keeps (c.loop.invariant.2 requests fits)),
      omega arith,
    )

-- as many turns are more than all budgets allow
pub unreachable-requires-2 : goal.unreachable-requires-2
unreachable-requires-2 c =
    let most = few_executed c.loop.core.seen c.lemma_is_reached-2.ensures c.lemma_is_sound.ensures.counts in
    let turns = c.loop.invariant.3 in
    omega arith
