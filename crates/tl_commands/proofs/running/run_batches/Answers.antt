use Rattle.tl_commands.specs.Run.{batches_of, answers_of}
use Rattle.tl_commands.proofs.RunLemmas.{answered, one_session, matched}
use Rattle.tl_commands.proofs.running.run_batches.Goals as goal

pub returns-else-len-batches-clause-ok : goal.returns-else-len-batches-clause-ok
returns-else-len-batches-clause-ok g c =
    let session = c.in_ok-asked.asked.1 in
    let back = c.in-Ok.field-0-1.items in
    let one = one_session back _ _ session c.in-Ok.ensures.ok.0 c.push_reserved.ensures.items c.in_ok-sessions.ensures.items in (
      session,
      answered (batches_of c.args.batches.now) (answers_of c.in_ok-asked.asked.0.items) _ session c.in_ok-asked.ensures.each c.args.engine.seals c.requires.seals c.in_ok-asked.ensures.refused
          c.in_ok-session.ensures.ok c.in_ok-asked.ensures.kept,
      matched c.in-Ok.chain.items back session one c.in-Ok.ensures.ok.1,
    )
