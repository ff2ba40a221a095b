use Rattle.std.proofs.Common.{◌∙◌, ◌++◌, ap, sym}
use Rattle.tl_server.specs.Sending.{OutboxValue}
use Rattle.tl_server.proofs.Sending.{writes_sent, not_err, when_err}
use Rattle.tl_server.proofs.outbox.Outbox.send.Goals as goal

pub returns : goal.returns
returns g c =
    let v = c.self.view_is in
    let is = c.is_err-self-inside.ensures.value in
    let none = c.requires in
    writes_sent (g.K.Sink.output c.args.sink.now) (g.K.Sink.output c.write_all.new.sink) (g.K.Sink.failures c.args.sink.now) (g.K.Sink.failures c.write_all.new.sink)
    c.args.self.now.kept c.self.inside.text.items c.args.text.now c.args.text.now c.args.self.now.failed c.is_err-self-inside.result
    (ap (λ (x : OutboxValue). x.failed) (sym v) ∙ c.if-self.false)
    (ap (λ xs. xs ++ c.args.text.now) (sym none))
    (ap (λ (x : OutboxValue). x.kept) v ∙ none)
    (λ e. not_err c.write_all.result _ (sym is ∙ e) c.write_all.ensures.ok)
    (λ e. when_err c.write_all.result _ (sym is ∙ e) c.write_all.ensures.err)
    (λ e. not_err c.write_all.result _ (sym is ∙ e) c.write_all.ensures.fine)
    (λ e. when_err c.write_all.result _ (sym is ∙ e) c.write_all.ensures.failed)
