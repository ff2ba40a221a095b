use Rattle.std.proofs.Common.{◌∙◌, ap, sym, []}
use Rattle.tl_server.specs.Faults.{numbers_of, ruling_numbers_of}
use Rattle.tl_server.specs.declared.fault.RulingFault.TheVariants.{Frozen}
use Rattle.tl_server.specs.Answers.{line_text, error_text}
use Rattle.tl_server.specs.Requests.{line_view, is_barred}
use Rattle.tl_server.proofs.Sending.{writes_same}
use Rattle.tl_server.proofs.LineAnswers.{faulted, asked_line, barred_line}
use Rattle.tl_server.proofs.answering.answer_line.Goals as goal

pub returns-in-Err : goal.returns-in-Err
returns-in-Err g c =
    let f = c.in-Err.fault in (
      [],
      line_text (error_text (numbers_of f)),
      g.met.V.Service.gains_none c.args.visitor.now,
      writes_same c.put_error_line-in-Err.ensures (ap (λ n. line_text (error_text n)) (c.as_slice-in-Err.ensures.value ∙ c.numbers-in-Err.ensures)),
      (
        sym c.is_of_browser.ensures ∙ c.if-is_of_browser.false,
        faulted (g.V.Service.ways c.args.service.now) (g.V.Service.may_seal c.args.visitor.now) c.args.line.now f c.in-Err.ensures.fault,
      ),
    )

pub returns-then-is_barred : goal.returns-then-is_barred
returns-then-is_barred g c =
    let r = line_view c.in-Ok.request in
    let barred = sym (c.is_barred.ensures ∙ ap (λ b. is_barred b r) c.is_frozen.ensures) ∙ c.if-is_barred.true in (
      [],
      line_text (error_text (ruling_numbers_of Frozen)),
      g.met.V.Service.gains_none c.args.visitor.now,
      writes_same c.put_error_line-then-is_barred.ensures (ap (λ n. line_text (error_text n)) (c.as_slice-then-is_barred.ensures.value ∙ c.numbers-then-is_barred.ensures)),
      (
        sym c.is_of_browser.ensures ∙ c.if-is_of_browser.false,
        barred_line (g.V.Service.ways c.args.service.now) (g.V.Service.may_seal c.args.visitor.now) c.args.line.now r c.in-Ok.ensures.ok barred,
      ),
    )

pub returns-else-is_barred : goal.returns-else-is_barred
returns-else-is_barred g c =
    let r = line_view c.in-Ok.request in
    let (gained, out, gains, writes, answer) = c.answer_request.ensures in
    let free = sym (c.is_barred.ensures ∙ ap (λ b. is_barred b r) c.is_frozen.ensures) ∙ c.if-is_barred.false in (
      gained,
      out,
      gains,
      writes,
      (
        sym c.is_of_browser.ensures ∙ c.if-is_of_browser.false,
        asked_line (g.V.Service.ways c.args.service.now) (g.V.Service.may_seal c.args.visitor.now) c.args.line.now r gained out c.in-Ok.ensures.ok free answer,
      ),
    )
