use Rattle.tl_workers.proofs.genuine.lemma_was_session.Goals as goal

pub returns : goal.returns
returns g c = g.S.Showing.shows c.args.session.now
