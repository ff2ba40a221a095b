use Rattle.std.proofs.Common.{rules, ◌≡◌, ◌<◌, length, Some, None, IsOk, slice_get, string_bytes, refl, sym, ap, ◌∙◌, subst, arith}
use Rattle.std.proofs.lemmas.Option.{slice_get_read}
use Rattle.tl_core.specs.declared.stepped.Stepped.TheVariants.{Blocked, Over}
use Rattle.tl_core.specs.Entries.{admission_refusal, after_admission}
use Rattle.tl_core.specs.Followed.{Proceeds}
use Rattle.tl_recover.specs.declared.fault.RecoverFault.TheVariants.{Core}
use Rattle.tl_recover.proofs.Turns.{keeps_proceeds, turn_proceeds, fits_again, fits_admission}
use Rattle.tl_recover.proofs.Retaken.{asked, free, admitted, moves, only_memory}
use Rattle.tl_recover.proofs.redriving.take_turn.Goals as goal

pub returns-in-Ok-clause-fits : goal.returns-in-Ok-clause-fits
returns-in-Ok-clause-fits c fits =
    let r = c.index-requests-call.result in
    let at : c.args.call ≡ length c.args.core.now.seen.calls = c.if-call-calls.true ∙ c.calls.ensures.count in
    let less : c.args.call < length c.args.requests.now = omega (arith, c.if-call-requests.false) in
    let there : slice_get c.args.requests.now c.args.call ≡ Some r = slice_get_read c.args.requests.now _ c.args.call r refl less c.index-requests-call.is in
    let name : c.deref.result.now ≡ string_bytes r.name = search rules in
    let args : c.deref-then-call-calls.result.now ≡ r.args.items = c.deref-then-call-calls.ensures.value in
    let free : admission_refusal c.args.core.now.seen (string_bytes r.name) r.args.items ≡ None = rw (← name, ← args) c.in-Ok.ensures.ok.free in
    let after : c.admit.new.self.seen ≡ after_admission c.args.core.now.seen (string_bytes r.name) r.args.items = rw (← name, ← args) c.in-Ok.ensures.ok.after_it in
    fits_admission c.args.core.now.seen c.admit.new.self.seen r c.args.requests.now free after (rw (← at) there) (rw (← at) less) fits

-- the request of a call that was admitted is there
pub returns-then-call-requests-clause-again : goal.returns-then-call-requests-clause-again
returns-then-call-requests-clause-again c = λ v later to.
    let new : c.args.call ≡ length c.args.core.now.seen.calls = c.if-call-calls.true ∙ c.calls.ensures.count in
    let there = asked v c.args.core.now.seen c.args.requests.now c.args.call later to c.lemma_is_reached.ensures new in
    absurd (omega (arith, c.if-call-requests.true))

-- there was room for it then, and there is room now
pub returns-in-Err-clause-again : goal.returns-in-Err-clause-again
returns-in-Err-clause-again c = λ v later to.
    let r = c.index-requests-call.result in
    let new : c.args.call ≡ length c.args.core.now.seen.calls = c.if-call-calls.true ∙ c.calls.ensures.count in
    let less : c.args.call < length c.args.requests.now = omega (arith, c.if-call-requests.false) in
    let there : slice_get c.args.requests.now c.args.call ≡ Some r = slice_get_read c.args.requests.now _ c.args.call r refl less c.index-requests-call.is in
    let name : c.deref.result.now ≡ string_bytes r.name = search rules in
    let args : c.deref-then-call-calls.result.now ≡ r.args.items = c.deref-then-call-calls.ensures.value in
    let may = free v c.args.core.now.seen c.args.requests.now c.args.call later to c.lemma_is_reached.ensures new r there in
    let here : admission_refusal c.args.core.now.seen c.deref.result.now c.deref-then-call-calls.result.now ≡ None = rw (name, args) may in
    ap Core (only_memory _ (λ other. sym here ∙ c.in-Err.ensures.fault.0 other))

pub returns-in-Ok-Moved : goal.returns-in-Ok-Moved
returns-in-Ok-Moved c =
    let took = subst (λ s. Proceeds c.args.core.now c.args.call s c.proceed.new.self) c.in-Ok-Moved.field-0-is c.in-Ok-Moved.ensures.proceeds in
    let keeps = keeps_proceeds c.args.core.now c.proceed.new.self c.args.call _ took in
    record {
      turn = turn_proceeds c.args.core.now c.proceed.new.self c.args.call c.in-Ok-Moved.field-0-0 took;
      fits = λ fits. fits_again c.args.core.now.seen c.proceed.new.self.seen c.args.requests.now keeps fits;
      goes_on = keeps.goes_on;
      again = λ v later to. tt;
    }

-- a call that took this turn isn't blocked or over
pub returns-in-Ok-Blocked : goal.returns-in-Ok-Blocked
returns-in-Ok-Blocked c =
    let asks = subst (λ s. Proceeds c.args.core.now c.args.call s c.proceed.new.self) c.in-Ok-Blocked.field-0-is c.in-Ok-Blocked.ensures.proceeds in
    record {
      turn = tt;
      fits = λ fits. tt;
      goes_on = (keeps_proceeds c.args.core.now c.proceed.new.self c.args.call _ asks).goes_on;
      again = λ v later to.
          absurd (moves v c.args.core.now c.proceed.new.self c.args.requests.now c.args.call later to c.lemma_is_reached.ensures c.lemma_is_reached-in-Ok-Blocked.ensures (λ same. c.if-call-calls.false (same ∙ sym c.calls.ensures.count)) (Blocked c.in-Ok-Blocked.field-0-0 c.in-Ok-Blocked.field-0-1) asks);
    }

pub returns-in-Ok-Over : goal.returns-in-Ok-Over
returns-in-Ok-Over c =
    let asks = subst (λ s. Proceeds c.args.core.now c.args.call s c.proceed.new.self) c.in-Ok-Over.field-0-is c.in-Ok-Over.ensures.proceeds in
    record {
      turn = tt;
      fits = λ fits. tt;
      goes_on = (keeps_proceeds c.args.core.now c.proceed.new.self c.args.call _ asks).goes_on;
      again = λ v later to.
          absurd (moves v c.args.core.now c.proceed.new.self c.args.requests.now c.args.call later to c.lemma_is_reached.ensures c.lemma_is_reached-in-Ok-Over.ensures (λ same. c.if-call-calls.false (same ∙ sym c.calls.ensures.count)) Over asks);
    }

-- it was admitted
pub returns-in-Err-proceed-clause-again : goal.returns-in-Err-proceed-clause-again
returns-in-Err-proceed-clause-again c = λ v later to.
    let known = admitted v c.args.core.now.seen c.args.requests.now c.args.call later to c.lemma_is_reached.ensures (λ same. c.if-call-calls.false (same ∙ sym c.calls.ensures.count)) in
    let ok : IsOk c.proceed.result = c.proceed.ensures.known.1 known in
    let clash = subst IsOk c.in-Err-proceed.is ok in
    absurd cc
