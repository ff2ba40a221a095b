use Rattle.std.proofs.Common.{◌++◌, ◌∷◌, ◌<◌, [], length, ◌∙◌, ap, sym, subst, arith}
use Rattle.std.specs.Prelude.{All}
use Rattle.std.proofs.lemmas.List.{append_assoc}
use Rattle.std.proofs.lemmas.List.Elements.{All-push}
use Rattle.tl_store.proofs.TurnLemmas.{two_more}
use Rattle.tl_store.proofs.ClosingLemmas.{two_bytes}
use Rattle.tl_store.proofs.turns.push_turns.Goals as goal

pub loop-at-preserved : goal.loop-at-preserved
loop-at-preserved c =
    let so_far = c.loop-at.invariant in (
      so_far.0 ++ c.call_at.result ∷ [],
      two_more c.args.bytes.now so_far.0 c.loop-at.at c.call_at.result (omega arith) so_far.1 c.call_at.ensures.bytes,
      c.in_ok-push.ensures.items ∙ ap (λ l. l ++ c.call_at.result ∷ []) so_far.2 ∙ append_assoc _ so_far.0 (c.call_at.result ∷ []),
      subst (All (λ t. t < 65536)) (sym c.in_ok-push.ensures.items) (All-push (λ t. t < 65536) _ c.call_at.result so_far.3 c.call_at.ensures.small),
    )

-- the bytes of turns are an even number
pub returns-then-bytes-ne0-clause-even : goal.returns-then-bytes-ne0-clause-even
returns-then-bytes-ne0-clause-even c = λ more is. absurd (let long = ap length is ∙ two_bytes more in omega arith)
