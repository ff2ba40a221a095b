use Rattle.std.proofs.Common.{◌≡◌, length, get_or, None, Some, sym, ap, ◌∙◌, arith}
use Rattle.std.proofs.lemmas.List.{length-replicate}
use Rattle.tl_audit.proofs.LedCalls.{no_turn}
use Rattle.tl_audit.proofs.replays.Replays.new.Goals as goal

pub returns : goal.returns
returns c t trail size =
    let items = c.loop-call.turns.items in
    let is = c.loop-call.invariant in
    let count = ap length is ∙ length-replicate c.loop-call._call None in
    record {
      trail = trail;
      size = omega (arith, count, size, c.loop-call-test.false, c.loop-call.auto._call-end);
      led = λ d b some. let no' : None ≡ Some b = sym (ap (λ l. get_or l d None) is ∙ no_turn c.loop-call._call d) ∙ some in absurd cc;
      over = λ d h. absurd cc;
      settled = λ d inside lt h. absurd (omega (arith, lt));
      least = λ w some. absurd cc;
    }
