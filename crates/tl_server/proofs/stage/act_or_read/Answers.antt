use Rattle.tl_server.specs.Served.{ReadBy, keying}
use Rattle.tl_server.proofs.TextLemmas.{reads_too}
use Rattle.tl_server.proofs.stage.act_or_read.Goals as goal

pub returns-in_default : goal.returns-in_default
returns-in_default g c =
    let (own, gains, came) = c.act.ensures in
    (own, gains, reads_too c.args.engine.now.seals (ReadBy (record { has = g.K.Texts.has; lacks = g.K.Texts.lacks })) (keying (g.J.Journal.is_storing c.args.journal.now)) c.args.request.now own c.act.result c.in_default.not-RegisterText c.in_default.not-CallOnce came)
