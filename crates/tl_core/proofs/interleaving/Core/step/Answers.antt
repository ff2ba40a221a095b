use Rattle.tl_core.proofs.RunParts.{step_done, step_blocked}
use Rattle.tl_core.proofs.interleaving.Core.step.Goals as goal

pub returns : goal.returns
returns c =
    let sound = c.lemma_is_sound.ensures in
    record {
      answered = c.do_next.ensures.answer;
      after_it = c.do_next.ensures.after;
      done = rw c.do_next.ensures.after (step_done c.args.self.now.seen c.args.call sound.sound sound.counted c.do_next.result c.do_next.ensures.answer);
      blocked = step_blocked c.args.self.now.seen c.args.call sound.sound sound.counted c.do_next.result c.do_next.ensures.answer;
      turns = c.do_next.ensures.turns;
    }
