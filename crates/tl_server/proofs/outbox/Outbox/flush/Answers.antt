use Rattle.std.proofs.Common.{◌≡◌, ◌∙◌, ◌++◌, ap, sym, [], append-nil}
use Rattle.tl_server.specs.Sending.{OutboxValue}
use Rattle.tl_server.proofs.Sending.{writes_sent, not_err, when_err}
use Rattle.tl_server.proofs.outbox.Outbox.flush.Goals as goal

pub returns-clause-writes : goal.returns-clause-writes
returns-clause-writes g c =
    let v = c.self.view_is in
    let is = c.is_err-self-inside.ensures.value in
    let kept = c.args.self.now.kept in
    let written : c.as_slice.result.now ≡ kept ++ [] = c.as_slice.ensures.value ∙ ap (λ (x : OutboxValue). x.kept) v ∙ sym (append-nil kept) in
    writes_sent (g.K.Sink.output c.args.sink.now) (g.K.Sink.output c.write_all.new.sink) (g.K.Sink.failures c.args.sink.now) (g.K.Sink.failures c.write_all.new.sink)
    kept c.clear-2.new.self.items [] c.as_slice.result.now c.args.self.now.failed c.is_err-self-inside.result
    (ap (λ (x : OutboxValue). x.failed) (sym v) ∙ c.if-self.false)
    written
    c.clear-2.ensures.items
    (λ e. not_err c.write_all.result _ (sym is ∙ e) c.write_all.ensures.ok)
    (λ e. when_err c.write_all.result _ (sym is ∙ e) c.write_all.ensures.err)
    (λ e. not_err c.write_all.result _ (sym is ∙ e) c.write_all.ensures.fine)
    (λ e. when_err c.write_all.result _ (sym is ∙ e) c.write_all.ensures.failed)
