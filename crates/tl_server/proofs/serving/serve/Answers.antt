use Rattle.std.proofs.Common.{◌+◌, ◌++◌, ◌∙◌, Bool, true, false, ap, refl, sym, subst}
use Rattle.std.specs.Prelude.{if◌then◌else◌, ◌==◌}
use Rattle.tl_server.specs.declared.reader.Came.{Came}
use Rattle.tl_server.specs.Coming.{Comes}
use Rattle.tl_server.specs.Sending.{Sending, sending}
use Rattle.tl_server.proofs.Goings.{Laws, moment, if_some, begins, settles, goes_on, one_of, stops_before, breaks_off, ends, closes_at, rest_last, finished_all, finished_part, none_left}
use Rattle.tl_server.proofs.Gained.{gains_none, answered_more}
use Rattle.tl_server.proofs.serving.serve.Goals as goal

pub loop-init : goal.loop-init
loop-init g c =
    let x : Laws g.V.Service.gains g.V.Service.may_seal = record { none = g.met.V.Service.gains_none; more = g.met.V.Service.gains_more; on = g.met.V.Service.seals_on } in
    let box = c.in-Ok-new.outbox in
    let m = moment (g.S.Source.input c.args.source.now) c.args.visitor.now (g.K.Sink.output c.args.sink.now) in
    let s : Sending = sending (g.K.Sink.output c.args.sink.now) (g.K.Sink.failures c.args.sink.now) box in
    let n = g.K.Sink.failures c.args.sink.now in (
      (λ bytes e. begins x m c.in-Ok.reader.left bytes s e c.in-Ok.ensures refl c.in-Ok-new.ensures.0 c.in-Ok-new.ensures.1),
      refl,
      ap (λ (b : Bool). if b then n + 1 else n) (sym c.in-Ok-new.ensures.1),
      gains_none x c.args.visitor.now,
    )

pub returns-then-has_failed-clause-write : goal.returns-then-has_failed-clause-write
returns-then-has_failed-clause-write g c = λ _.
    let m = moment (g.S.Source.input c.args.source.now) c.args.visitor.now (g.K.Sink.output c.args.sink.now) in
    let s : Sending = sending (g.K.Sink.output c.loop.sink) (g.K.Sink.failures c.loop.sink) c.loop.outbox in
    let s1 : Sending = sending (g.K.Sink.output c.settle.new.sink) (g.K.Sink.failures c.settle.new.sink) c.settle.new.outbox in
    let input = g.S.Source.input c.loop.source in
    let left = c.loop.reader.left in
    let fails = sym c.has_failed.ensures ∙ c.if-has_failed.true in
    if_some (g.S.Source.input c.args.source.now) _ (λ bytes e.
    let run = settles m input c.loop.visitor s s1 left c.loop.count bytes (c.loop.invariant.0 bytes e) c.settle.ensures.writes in
    stops_before m input c.loop.visitor s1 left c.loop.count bytes run fails)

pub returns-in-Err-clause-read : goal.returns-in-Err-clause-read
returns-in-Err-clause-read g c = λ _.
    let m = moment (g.S.Source.input c.args.source.now) c.args.visitor.now (g.K.Sink.output c.args.sink.now) in
    let s : Sending = sending (g.K.Sink.output c.loop.sink) (g.K.Sink.failures c.loop.sink) c.loop.outbox in
    let s1 : Sending = sending (g.K.Sink.output c.settle.new.sink) (g.K.Sink.failures c.settle.new.sink) c.settle.new.outbox in
    let input = g.S.Source.input c.loop.source in
    let input' = g.S.Source.input c.next-in-loop.new.source in
    let left = c.loop.reader.left in
    let fresh = sym c.has_failed.ensures ∙ c.if-has_failed.false in
    let none = c.settle.ensures.none c.in-Err.ensures.none in
    if_some (g.S.Source.input c.args.source.now) _ (λ bytes e.
    let run = settles m input c.loop.visitor s s1 left c.loop.count bytes (c.loop.invariant.0 bytes e) c.settle.ensures.writes in
    breaks_off m input input' c.loop.visitor s1 left c.loop.count bytes run (c.in-Err.ensures.breaks run.unread run.input_is) fresh none)

pub returns-in-Ok-End-clause-ok : goal.returns-in-Ok-End-clause-ok
returns-in-Ok-End-clause-ok g c =
    let m = moment (g.S.Source.input c.args.source.now) c.args.visitor.now (g.K.Sink.output c.args.sink.now) in
    let s : Sending = sending (g.K.Sink.output c.loop.sink) (g.K.Sink.failures c.loop.sink) c.loop.outbox in
    let s1 : Sending = sending (g.K.Sink.output c.settle.new.sink) (g.K.Sink.failures c.settle.new.sink) c.settle.new.outbox in
    let input = g.S.Source.input c.loop.source in
    let input' = g.S.Source.input c.next-in-loop.new.source in
    let left = c.loop.reader.left in
    let fresh = sym c.has_failed.ensures ∙ c.if-has_failed.false in
    if_some (g.S.Source.input c.args.source.now) _ (λ bytes e.
    let run = settles m input c.loop.visitor s s1 left c.loop.count bytes (c.loop.invariant.0 bytes e) c.settle.ensures.writes in
    let P : Came → Type 0 = λ k. Comes (left ++ run.unread) k c.next-in-loop.new.self input' in
    let came = subst P c.in-Ok-End.field-0-is (c.in-Ok-End.ensures.came run.unread run.input_is) in
    let none = c.settle.ensures.none (none_left left run.unread came) in
    ends m input input' c.loop.visitor s1 left c.next-in-loop.new.self c.loop.count bytes run came fresh none)

pub returns-then-has_failed-2-clause-write : goal.returns-then-has_failed-2-clause-write
returns-then-has_failed-2-clause-write g c = λ _.
    let x : Laws g.V.Service.gains g.V.Service.may_seal = record { none = g.met.V.Service.gains_none; more = g.met.V.Service.gains_more; on = g.met.V.Service.seals_on } in
    let m = moment (g.S.Source.input c.args.source.now) c.args.visitor.now (g.K.Sink.output c.args.sink.now) in
    let s : Sending = sending (g.K.Sink.output c.loop.sink) (g.K.Sink.failures c.loop.sink) c.loop.outbox in
    let s1 : Sending = sending (g.K.Sink.output c.settle.new.sink) (g.K.Sink.failures c.settle.new.sink) c.settle.new.outbox in
    let input = g.S.Source.input c.loop.source in
    let input' = g.S.Source.input c.next-in-loop.new.source in
    let left = c.loop.reader.left in
    let s2 : Sending = sending (g.K.Sink.output c.answer_line.new.sink) (g.K.Sink.failures c.answer_line.new.sink) c.answer_line.new.outbox in
    let s3 : Sending = sending (g.K.Sink.output c.flush.new.sink) (g.K.Sink.failures c.flush.new.sink) c.flush.new.self in
    let tested = sym c.has_failed-in-Ok-Rest.ensures ∙ c.if-has_failed-2.true in
    let r = c.next-in-loop.new.self in
    let one = one_of g.V.Service.gains (g.V.Service.ways c.args.service.now) g.V.Service.may_seal c.loop.visitor c.answer_line.new.visitor s1 s2 (c.loop.count == 0) c.line.result.now r.held c.answer_line.result c.answer_line.result c.answer_line.ensures c.line.ensures refl in
    if_some (g.S.Source.input c.args.source.now) _ (λ bytes e.
    let run = settles m input c.loop.visitor s s1 left c.loop.count bytes (c.loop.invariant.0 bytes e) c.settle.ensures.writes in
    let P : Came → Type 0 = λ k. Comes (left ++ run.unread) k c.next-in-loop.new.self input' in
    let came = subst P c.in-Ok-Rest.field-0-is (c.in-Ok-Rest.ensures.came run.unread run.input_is) in
    let last = rest_last x m input input' c.loop.visitor c.answer_line.new.visitor s1 s2 s3 left r c.loop.count bytes c.answer_line.result run came one c.flush.ensures.writes c.in-Some-checked_add.more c.in-Some-checked_add.ensures.1 in
    finished_part m c.answer_line.new.visitor s3 c.in-Some-checked_add.more bytes last tested)

pub returns-in-Ok-Rest-clause-ok : goal.returns-in-Ok-Rest-clause-ok
returns-in-Ok-Rest-clause-ok g c =
    let x : Laws g.V.Service.gains g.V.Service.may_seal = record { none = g.met.V.Service.gains_none; more = g.met.V.Service.gains_more; on = g.met.V.Service.seals_on } in
    let m = moment (g.S.Source.input c.args.source.now) c.args.visitor.now (g.K.Sink.output c.args.sink.now) in
    let s : Sending = sending (g.K.Sink.output c.loop.sink) (g.K.Sink.failures c.loop.sink) c.loop.outbox in
    let s1 : Sending = sending (g.K.Sink.output c.settle.new.sink) (g.K.Sink.failures c.settle.new.sink) c.settle.new.outbox in
    let input = g.S.Source.input c.loop.source in
    let input' = g.S.Source.input c.next-in-loop.new.source in
    let left = c.loop.reader.left in
    let s2 : Sending = sending (g.K.Sink.output c.answer_line.new.sink) (g.K.Sink.failures c.answer_line.new.sink) c.answer_line.new.outbox in
    let s3 : Sending = sending (g.K.Sink.output c.flush.new.sink) (g.K.Sink.failures c.flush.new.sink) c.flush.new.self in
    let tested = sym c.has_failed-in-Ok-Rest.ensures ∙ c.if-has_failed-2.false in
    let r = c.next-in-loop.new.self in
    let one = one_of g.V.Service.gains (g.V.Service.ways c.args.service.now) g.V.Service.may_seal c.loop.visitor c.answer_line.new.visitor s1 s2 (c.loop.count == 0) c.line.result.now r.held c.answer_line.result c.answer_line.result c.answer_line.ensures c.line.ensures refl in
    if_some (g.S.Source.input c.args.source.now) _ (λ bytes e.
    let run = settles m input c.loop.visitor s s1 left c.loop.count bytes (c.loop.invariant.0 bytes e) c.settle.ensures.writes in
    let P : Came → Type 0 = λ k. Comes (left ++ run.unread) k c.next-in-loop.new.self input' in
    let came = subst P c.in-Ok-Rest.field-0-is (c.in-Ok-Rest.ensures.came run.unread run.input_is) in
    let last = rest_last x m input input' c.loop.visitor c.answer_line.new.visitor s1 s2 s3 left r c.loop.count bytes c.answer_line.result run came one c.flush.ensures.writes c.in-Some-checked_add.more c.in-Some-checked_add.ensures.1 in
    finished_all m c.answer_line.new.visitor s3 c.in-Some-checked_add.more bytes last tested c.flush.ensures.none)

pub returns-then-has_failed-3-clause-write : goal.returns-then-has_failed-3-clause-write
returns-then-has_failed-3-clause-write g c = λ _.
    let x : Laws g.V.Service.gains g.V.Service.may_seal = record { none = g.met.V.Service.gains_none; more = g.met.V.Service.gains_more; on = g.met.V.Service.seals_on } in
    let m = moment (g.S.Source.input c.args.source.now) c.args.visitor.now (g.K.Sink.output c.args.sink.now) in
    let s : Sending = sending (g.K.Sink.output c.loop.sink) (g.K.Sink.failures c.loop.sink) c.loop.outbox in
    let s1 : Sending = sending (g.K.Sink.output c.settle.new.sink) (g.K.Sink.failures c.settle.new.sink) c.settle.new.outbox in
    let input = g.S.Source.input c.loop.source in
    let input' = g.S.Source.input c.next-in-loop.new.source in
    let left = c.loop.reader.left in
    let s2 : Sending = sending (g.K.Sink.output c.answer_line-in-Ok-Whole.new.sink) (g.K.Sink.failures c.answer_line-in-Ok-Whole.new.sink) c.answer_line-in-Ok-Whole.new.outbox in
    let s3 : Sending = sending (g.K.Sink.output c.flush-then-answer_line.new.sink) (g.K.Sink.failures c.flush-then-answer_line.new.sink) c.flush-then-answer_line.new.self in
    let tested = sym c.has_failed-then-answer_line.ensures ∙ c.if-has_failed-3.true in
    let r = c.next-in-loop.new.self in
    let one = one_of g.V.Service.gains (g.V.Service.ways c.args.service.now) g.V.Service.may_seal c.loop.visitor c.answer_line-in-Ok-Whole.new.visitor s1 s2 (c.loop.count == 0) c.line-in-Ok-Whole.result.now r.held c.answer_line-in-Ok-Whole.result true c.answer_line-in-Ok-Whole.ensures c.line-in-Ok-Whole.ensures c.if-answer_line.true in
    if_some (g.S.Source.input c.args.source.now) _ (λ bytes e.
    let run = settles m input c.loop.visitor s s1 left c.loop.count bytes (c.loop.invariant.0 bytes e) c.settle.ensures.writes in
    let P : Came → Type 0 = λ k. Comes (left ++ run.unread) k c.next-in-loop.new.self input' in
    let came = subst P c.in-Ok-Whole.field-0-is (c.in-Ok-Whole.ensures.came run.unread run.input_is) in
    let last = closes_at x m input input' c.loop.visitor c.answer_line-in-Ok-Whole.new.visitor s1 s2 s3 left r c.loop.count bytes run came one c.flush-then-answer_line.ensures.writes c.in-Some-checked_add.more c.in-Some-checked_add.ensures.1 in
    finished_part m c.answer_line-in-Ok-Whole.new.visitor s3 c.in-Some-checked_add.more bytes last tested)

pub returns-then-answer_line-clause-ok : goal.returns-then-answer_line-clause-ok
returns-then-answer_line-clause-ok g c =
    let x : Laws g.V.Service.gains g.V.Service.may_seal = record { none = g.met.V.Service.gains_none; more = g.met.V.Service.gains_more; on = g.met.V.Service.seals_on } in
    let m = moment (g.S.Source.input c.args.source.now) c.args.visitor.now (g.K.Sink.output c.args.sink.now) in
    let s : Sending = sending (g.K.Sink.output c.loop.sink) (g.K.Sink.failures c.loop.sink) c.loop.outbox in
    let s1 : Sending = sending (g.K.Sink.output c.settle.new.sink) (g.K.Sink.failures c.settle.new.sink) c.settle.new.outbox in
    let input = g.S.Source.input c.loop.source in
    let input' = g.S.Source.input c.next-in-loop.new.source in
    let left = c.loop.reader.left in
    let s2 : Sending = sending (g.K.Sink.output c.answer_line-in-Ok-Whole.new.sink) (g.K.Sink.failures c.answer_line-in-Ok-Whole.new.sink) c.answer_line-in-Ok-Whole.new.outbox in
    let s3 : Sending = sending (g.K.Sink.output c.flush-then-answer_line.new.sink) (g.K.Sink.failures c.flush-then-answer_line.new.sink) c.flush-then-answer_line.new.self in
    let tested = sym c.has_failed-then-answer_line.ensures ∙ c.if-has_failed-3.false in
    let r = c.next-in-loop.new.self in
    let one = one_of g.V.Service.gains (g.V.Service.ways c.args.service.now) g.V.Service.may_seal c.loop.visitor c.answer_line-in-Ok-Whole.new.visitor s1 s2 (c.loop.count == 0) c.line-in-Ok-Whole.result.now r.held c.answer_line-in-Ok-Whole.result true c.answer_line-in-Ok-Whole.ensures c.line-in-Ok-Whole.ensures c.if-answer_line.true in
    if_some (g.S.Source.input c.args.source.now) _ (λ bytes e.
    let run = settles m input c.loop.visitor s s1 left c.loop.count bytes (c.loop.invariant.0 bytes e) c.settle.ensures.writes in
    let P : Came → Type 0 = λ k. Comes (left ++ run.unread) k c.next-in-loop.new.self input' in
    let came = subst P c.in-Ok-Whole.field-0-is (c.in-Ok-Whole.ensures.came run.unread run.input_is) in
    let last = closes_at x m input input' c.loop.visitor c.answer_line-in-Ok-Whole.new.visitor s1 s2 s3 left r c.loop.count bytes run came one c.flush-then-answer_line.ensures.writes c.in-Some-checked_add.more c.in-Some-checked_add.ensures.1 in
    finished_all m c.answer_line-in-Ok-Whole.new.visitor s3 c.in-Some-checked_add.more bytes last tested c.flush-then-answer_line.ensures.none)

pub loop-preserved : goal.loop-preserved
loop-preserved g c =
    let x : Laws g.V.Service.gains g.V.Service.may_seal = record { none = g.met.V.Service.gains_none; more = g.met.V.Service.gains_more; on = g.met.V.Service.seals_on } in
    let m = moment (g.S.Source.input c.args.source.now) c.args.visitor.now (g.K.Sink.output c.args.sink.now) in
    let s : Sending = sending (g.K.Sink.output c.loop.sink) (g.K.Sink.failures c.loop.sink) c.loop.outbox in
    let s1 : Sending = sending (g.K.Sink.output c.settle.new.sink) (g.K.Sink.failures c.settle.new.sink) c.settle.new.outbox in
    let input = g.S.Source.input c.loop.source in
    let input' = g.S.Source.input c.next-in-loop.new.source in
    let left = c.loop.reader.left in
    let after = c.answer_line-in-Ok-Whole.new in
    let s2 : Sending = sending (g.K.Sink.output after.sink) (g.K.Sink.failures after.sink) after.outbox in
    let r = c.next-in-loop.new.self in
    let n = g.K.Sink.failures c.args.sink.now in
    let one = one_of g.V.Service.gains (g.V.Service.ways c.args.service.now) g.V.Service.may_seal c.loop.visitor after.visitor s1 s2 (c.loop.count == 0) c.line-in-Ok-Whole.result.now r.held c.answer_line-in-Ok-Whole.result false c.answer_line-in-Ok-Whole.ensures c.line-in-Ok-Whole.ensures c.if-answer_line.false in (
      (λ bytes e.
          let run = settles m input c.loop.visitor s s1 left c.loop.count bytes (c.loop.invariant.0 bytes e) c.settle.ensures.writes in
          let P : Came → Type 0 = λ k. Comes (left ++ run.unread) k c.next-in-loop.new.self input' in
          let came = subst P c.in-Ok-Whole.field-0-is (c.in-Ok-Whole.ensures.came run.unread run.input_is) in
          goes_on x m input input' c.loop.visitor after.visitor s1 s2 left r c.loop.count bytes run came one c.in-Some-checked_add.more c.in-Some-checked_add.ensures.1),
      c.in-Ok-Whole.ensures.fine ∙ c.loop.invariant.1,
      c.answer_line-in-Ok-Whole.ensures.3.counts n (c.settle.ensures.writes.counts n c.loop.invariant.2),
      answered_more (g.V.Service.ways c.args.service.now) x c.args.visitor.now c.loop.visitor after.visitor (c.loop.count == 0) c.line-in-Ok-Whole.result.now c.answer_line-in-Ok-Whole.result c.answer_line-in-Ok-Whole.ensures.0 c.answer_line-in-Ok-Whole.ensures.1 c.loop.invariant.3 c.answer_line-in-Ok-Whole.ensures.2 c.answer_line-in-Ok-Whole.ensures.4,
    )

pub returns-then-has_failed-clause-kept : goal.returns-then-has_failed-clause-kept
returns-then-has_failed-clause-kept g c = c.loop.invariant.3

pub returns-in-Err-clause-kept : goal.returns-in-Err-clause-kept
returns-in-Err-clause-kept g c = c.loop.invariant.3

pub returns-in-Ok-End-clause-kept : goal.returns-in-Ok-End-clause-kept
returns-in-Ok-End-clause-kept g c = c.loop.invariant.3

pub returns-then-has_failed-2-clause-kept : goal.returns-then-has_failed-2-clause-kept
returns-then-has_failed-2-clause-kept g c =
    let x : Laws g.V.Service.gains g.V.Service.may_seal = record { none = g.met.V.Service.gains_none; more = g.met.V.Service.gains_more; on = g.met.V.Service.seals_on } in
    answered_more (g.V.Service.ways c.args.service.now) x c.args.visitor.now c.loop.visitor c.answer_line.new.visitor (c.loop.count == 0) c.line.result.now c.answer_line.result c.answer_line.ensures.0 c.answer_line.ensures.1 c.loop.invariant.3 c.answer_line.ensures.2 c.answer_line.ensures.4

pub returns-in-Ok-Rest-clause-kept : goal.returns-in-Ok-Rest-clause-kept
returns-in-Ok-Rest-clause-kept g c =
    let x : Laws g.V.Service.gains g.V.Service.may_seal = record { none = g.met.V.Service.gains_none; more = g.met.V.Service.gains_more; on = g.met.V.Service.seals_on } in
    answered_more (g.V.Service.ways c.args.service.now) x c.args.visitor.now c.loop.visitor c.answer_line.new.visitor (c.loop.count == 0) c.line.result.now c.answer_line.result c.answer_line.ensures.0 c.answer_line.ensures.1 c.loop.invariant.3 c.answer_line.ensures.2 c.answer_line.ensures.4

pub returns-then-has_failed-3-clause-kept : goal.returns-then-has_failed-3-clause-kept
returns-then-has_failed-3-clause-kept g c =
    let x : Laws g.V.Service.gains g.V.Service.may_seal = record { none = g.met.V.Service.gains_none; more = g.met.V.Service.gains_more; on = g.met.V.Service.seals_on } in
    answered_more (g.V.Service.ways c.args.service.now) x c.args.visitor.now c.loop.visitor c.answer_line-in-Ok-Whole.new.visitor (c.loop.count == 0) c.line-in-Ok-Whole.result.now c.answer_line-in-Ok-Whole.result c.answer_line-in-Ok-Whole.ensures.0 c.answer_line-in-Ok-Whole.ensures.1 c.loop.invariant.3 c.answer_line-in-Ok-Whole.ensures.2 c.answer_line-in-Ok-Whole.ensures.4

pub returns-then-answer_line-clause-kept : goal.returns-then-answer_line-clause-kept
returns-then-answer_line-clause-kept g c =
    let x : Laws g.V.Service.gains g.V.Service.may_seal = record { none = g.met.V.Service.gains_none; more = g.met.V.Service.gains_more; on = g.met.V.Service.seals_on } in
    answered_more (g.V.Service.ways c.args.service.now) x c.args.visitor.now c.loop.visitor c.answer_line-in-Ok-Whole.new.visitor (c.loop.count == 0) c.line-in-Ok-Whole.result.now c.answer_line-in-Ok-Whole.result c.answer_line-in-Ok-Whole.ensures.0 c.answer_line-in-Ok-Whole.ensures.1 c.loop.invariant.3 c.answer_line-in-Ok-Whole.ensures.2 c.answer_line-in-Ok-Whole.ensures.4
