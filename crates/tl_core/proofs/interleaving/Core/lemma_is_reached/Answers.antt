use Rattle.tl_core.proofs.ReaderLemmas.{fit_call}
use Rattle.tl_core.proofs.interleaving.Core.lemma_is_reached.Goals as goal

pub returns : goal.returns
returns c =
    let core = c.self.invariant.core in
    rw (← c.self.view_is) (record {
      sound = core.sound;
      reached = core.reached;
      counted = core.counted;
      few = core.few;
      few_events = c.limit-fact.ensures.within.most;
      named = c.len-fact.ensures.free;
      fit = λ d known. fit_call _ _ _ _ _ _ core d known;
      had_room = core.had_room;
    })
