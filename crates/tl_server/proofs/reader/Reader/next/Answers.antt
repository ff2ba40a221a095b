use Rattle.std.proofs.Common.{rules, ◌≡◌, ◌++◌, ◌∙◌, refl, false, inl, inr}
use Rattle.std.specs.Prelude.{Ok}
use Rattle.tl_server.proofs.Coming.{come_none, scanned, refilled, line_whole, line_rest, line_none, breaks, none_before}
use Rattle.tl_server.proofs.reader.Reader.next.Goals as goal

pub loop-init : goal.loop-init
loop-init g c = ((λ unread e. come_none c.forget.new.self (g.S.Source.input c.args.source.now) c.args.self.now.left unread c.forget.ensures.1 c.forget.ensures.0 e), refl, inl c.forget.ensures.0)

pub returns-then-scan-clause-came : goal.returns-then-scan-clause-came
returns-then-scan-clause-came g c = λ unread e.
    line_whole (c.args.self.now.left ++ unread) c.loop.self c.scan.new.self (g.S.Source.input c.loop.source) (c.loop.invariant.0 unread e) c.if-scan.ensures

pub returns-in-Err-clause-breaks : goal.returns-in-Err-clause-breaks
returns-in-Err-clause-breaks g c = λ unread e.
    let bytes = c.args.self.now.left ++ unread in
    breaks bytes c.scan.new.self (g.S.Source.input c.loop.source) (g.S.Source.input c.refill.new.source)
    (scanned bytes c.loop.self c.scan.new.self (g.S.Source.input c.loop.source) (c.loop.invariant.0 unread e) c.if-scan.ensures) c.if-scan.ensures.1 c.in-Err.ensures.failed.1

pub returns-in-Err-clause-none : goal.returns-in-Err-clause-none
returns-in-Err-clause-none g c = none_before c.loop.self.left c.args.self.now.left c.loop.invariant.2 c.if-scan.ensures.0

pub returns-in-Ok-false-clause-came : goal.returns-in-Ok-false-clause-came
returns-in-Ok-false-clause-came g c = λ unread e.
    let bytes = c.args.self.now.left ++ unread in
    let is : c.refill.result ≡ Ok false = search rules in
    line_none bytes c.scan.new.self c.refill.new.self (g.S.Source.input c.loop.source) (g.S.Source.input c.refill.new.source)
    (scanned bytes c.loop.self c.scan.new.self (g.S.Source.input c.loop.source) (c.loop.invariant.0 unread e) c.if-scan.ensures) c.if-scan.ensures.1 (c.refill.ensures.end is) c.refill.ensures.same (c.is_begun.ensures.none c.if-is_begun.false)

pub returns-then-is_begun-clause-came : goal.returns-then-is_begun-clause-came
returns-then-is_begun-clause-came g c = λ unread e.
    let bytes = c.args.self.now.left ++ unread in
    let is : c.refill.result ≡ Ok false = search rules in
    line_rest bytes c.scan.new.self c.refill.new.self (g.S.Source.input c.loop.source) (g.S.Source.input c.refill.new.source)
    (scanned bytes c.loop.self c.scan.new.self (g.S.Source.input c.loop.source) (c.loop.invariant.0 unread e) c.if-scan.ensures) c.if-scan.ensures.1 (c.refill.ensures.end is) c.refill.ensures.same (c.is_begun.ensures.some c.if-is_begun.true)

pub loop-preserved : goal.loop-preserved
loop-preserved g c =
    let empty = c.if-scan.ensures.1 in (
      (λ unread e.
          let bytes = c.args.self.now.left ++ unread in
          refilled bytes c.scan.new.self c.refill.new.self (g.S.Source.input c.loop.source) (g.S.Source.input c.refill.new.source)
          (scanned bytes c.loop.self c.scan.new.self (g.S.Source.input c.loop.source) (c.loop.invariant.0 unread e) c.if-scan.ensures) empty c.in-Ok-true.ensures.ok c.in-Ok-true.ensures.same),
      c.in-Ok-true.ensures.fine ∙ c.loop.invariant.1,
      inr (none_before c.loop.self.left c.args.self.now.left c.loop.invariant.2 c.if-scan.ensures.0),
    )
