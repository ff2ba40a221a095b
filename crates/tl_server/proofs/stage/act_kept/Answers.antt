use Rattle.tl_server.proofs.stage.act_kept.Goals as goal

pub returns : goal.returns
returns g c =
    let (own, gains, came) = c.act_or_read-outcome.ensures in
    (own, came, (c.act_or_read-outcome.new.session, c.args.session.now.kept, c.lemma_was_session.ensures, gains.kept))
