use Rattle.std.proofs.Common.{◌≡◌, sym, refl, subst, arith, add-one}
use Rattle.std.specs.Prelude.{Some, option_copied, slice_get}
use Rattle.std.proofs.lemmas.Grind.{common_steps}
use Rattle.std.proofs.lemmas.Option.{slice_get_read}
use Rattle.tl_audit.specs.Chains.{after_file}
use Rattle.tl_audit.proofs.ChainLemmas.{IsAuditedTo, audit_more, audit_fails, only_memory, all_serial}
use Rattle.tl_audit.proofs.chain.audit_chain_after.Goals as goal

pub loop-number-preserved : goal.loop-number-preserved
loop-number-preserved g c =
    let h = c.in-Ok.ensures.ok in
    let before = after_file (option_copied c.args.before) in
    let t = c.index-trails-number.result in
    let at : slice_get c.args.trails.now c.loop-number.number ≡ Some t = slice_get_read c.args.trails.now _ c.loop-number.number t refl c.loop-number-test.true c.index-trails-number.is in
    let more = audit_more before c.args.trails.now c.loop-number.number c.loop-number.orders.items t c.in-Ok.order c.loop-number.invariant.0 at h.0 h.1 h.2 h.3 _ c.push_reserved.ensures.items in (
      subst (λ n. IsAuditedTo before c.args.trails.now n c.push_reserved.new.self.items) (sym (add-one c.loop-number.number)) more,
      grind (arith, common_steps),
      grind (arith, common_steps),
    )

pub next_order-requires-clause-trail : goal.next_order-requires-clause-trail
next_order-requires-clause-trail g c =
    let t = c.index-trails-number.result in
    slice_get_read c.args.trails.now _ c.loop-number.number t refl c.loop-number-test.true c.index-trails-number.is

pub returns-clause-serial : goal.returns-clause-serial
returns-clause-serial g c = all_serial (after_file (option_copied c.args.before)) c.args.trails.now c.loop-number.number c.loop-number.orders.items c.loop-number.invariant.0 c.loop-number-test.false

pub returns-in-Err-clause-fault : goal.returns-in-Err-clause-fault
returns-in-Err-clause-fault g c ne =
    let t = c.index-trails-number.result in
    let at : slice_get c.args.trails.now c.loop-number.number ≡ Some t = slice_get_read c.args.trails.now _ c.loop-number.number t refl c.loop-number-test.true c.index-trails-number.is in
    audit_fails (after_file (option_copied c.args.before)) c.args.trails.now c.loop-number.number c.loop-number.orders.items t c.in-Err.fault c.loop-number.invariant.0 at
    (c.in-Err.ensures.fault ne)

pub returns-in-Err-clause-only : goal.returns-in-Err-clause-only
returns-in-Err-clause-only g c clean =
    only_memory (after_file (option_copied c.args.before)) c.args.trails.now c.in-Err.fault clean (λ ne. returns-in-Err-clause-fault g c ne)
