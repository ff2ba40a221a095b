use Rattle.std.proofs.Common.{◌≡◌, ◌∙◌, ◌++◌, List, length, ap, subst, arith}
use Rattle.std.specs.Prelude.{Result}
use Rattle.tl_workers.specs.declared.asking.Asking.{Asking}
use Rattle.tl_workers.specs.declared.refusal.Refusal.{Refusal}
use Rattle.tl_workers.specs.Kept.{ReceiptsEach, askings_of, asked_of, gots_of}
use Rattle.tl_workers.proofs.Refusing.{receipts_refused}
use Rattle.tl_workers.proofs.Batches.{admitted_long, receipts_long, answers_each, asked_are, gains_then}
use Rattle.tl_workers.proofs.engine.Engine.batch.Goals as goal

pub collect-answers-requires : goal.collect-answers-requires
collect-answers-requires g c =
    let long : length c.as_slice.result.now ≡ length c.args.requests.now = ap length c.as_slice.ensures.value ∙ admitted_long c.args.requests.now c.run-admitted.result.items c.run-admitted.ensures.each in
    (c.in-Ok.ensures.items, c.in-Ok.ensures.len, omega (arith, long, c.in-Ok.ensures.capacity))

pub record_all-requires-clause-asks : goal.record_all-requires-clause-asks
record_all-requires-clause-asks g c =
    let admitted = ap length c.as_slice-2.ensures.value ∙ admitted_long c.args.requests.now c.run-admitted.result.items c.run-admitted.ensures.each in
    omega (arith, admitted, c.in-Ok-reserve.ensures.room)

pub record_all-requires-clause-gots : goal.record_all-requires-clause-gots
record_all-requires-clause-gots g c =
    let answered = ap length c.as_slice-3.ensures.value ∙ receipts_long c.as_slice.result.now c.collect-answers.result.items c.collect-answers.ensures.each in
    let same = ap length c.as_slice.ensures.value ∙ admitted_long c.args.requests.now c.run-admitted.result.items c.run-admitted.ensures.each in
    omega (arith, answered, same, c.in-Ok-reserve.ensures.room)

pub returns-clause-each : goal.returns-clause-each
returns-clause-each g c =
    let rs = c.collect-answers.result.items in
    let F : List (Result Asking Refusal) → Type 0 = λ xs. ReceiptsEach xs rs in
    answers_each c.args.requests.now c.run-admitted.result.items rs c.run-admitted.ensures.each (subst F c.as_slice.ensures.value c.collect-answers.ensures.each)

pub returns-clause-kept : goal.returns-clause-kept
returns-clause-kept g c =
    let rs = c.collect-answers.result.items in
    let F : List (Result Asking Refusal) → Type 0 = λ xs. ReceiptsEach xs rs in
    let asked : askings_of c.as_slice-2.result.now ≡ asked_of c.args.requests.now rs
    = ap askings_of c.as_slice-2.ensures.value
    ∙ asked_are c.args.requests.now c.run-admitted.result.items rs c.run-admitted.ensures.each (subst F c.as_slice.ensures.value c.collect-answers.ensures.each) in
    let got : gots_of c.as_slice-3.result.now ≡ gots_of rs = ap gots_of c.as_slice-3.ensures.value in
    let both : askings_of c.as_slice-2.result.now ++ gots_of c.as_slice-3.result.now ≡ asked_of c.args.requests.now rs ++ gots_of rs = (λ i. asked i ++ got i) in
    gains_then _ _ _ _ _ c.reserve.ensures.same c.record_all.ensures both

pub returns-clause-refused : goal.returns-clause-refused
returns-clause-refused g c =
    let seals = c.args.self.now.seals in
    let rs = c.collect-answers.result.items in
    let F : List (Result Asking Refusal) → Type 0 = λ xs. ReceiptsEach xs rs in
    receipts_refused seals c.run-admitted.result.items rs (subst F c.as_slice.ensures.value c.collect-answers.ensures.each) c.run-admitted.ensures.refused
