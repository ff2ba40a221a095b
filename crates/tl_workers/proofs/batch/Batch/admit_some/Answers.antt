use Rattle.std.proofs.Common.{◌≡◌, ◌+◌, ◌∙◌, ℕ, [], ◌∷◌, length, take, ap, sym, subst, arith}
use Rattle.std.proofs.lemmas.List.{length-append}
use Rattle.std.proofs.lemmas.Grind.{common_steps}
use Rattle.tl_procedures.specs.declared.request.Request.{Request}
use Rattle.tl_workers.specs.Kept.{AsksFor, AdmittedEach}
use Rattle.tl_workers.proofs.Batches.{admitted-next}
use Rattle.tl_workers.proofs.Refusing.{refused-push}
use Rattle.tl_workers.proofs.batch.Batch.admit_some.Goals as goal

pub returns-then-is_err-clause-each : goal.returns-then-is_err-clause-each
returns-then-is_err-clause-each g c =
    let F : Request → Type 0 = λ q. AsksFor q c.in-Some.one in
    let next = admitted-next c.args.self.now.requests.now c.loop-i.i c.loop-i.admitted.items c.push_reserved.new.self.items c.index-requests-i.result c.in-Some.one c.loop-i-test.true c.loop-i.invariant.0
    (subst F c.index-requests-i.is c.in-Some.ensures.asks) c.push_reserved.ensures.items in
    let a = ap length c.push_reserved.ensures.items ∙ length-append c.loop-i.admitted.items (c.in-Some.one ∷ []) in
    let long : length c.push_reserved.new.self.items ≡ c.loop-i.i + 1 = omega (arith, a, c.loop-i.invariant.1) in
    let P : ℕ → Type 0 = λ k. AdmittedEach (take k c.args.self.now.requests.now) c.push_reserved.new.self.items in
    subst P (sym long) next

pub returns-then-is_err-clause-refused : goal.returns-then-is_err-clause-refused
returns-then-is_err-clause-refused g c =
    refused-push c.args.self.now.engine.now.seals c.loop-i.admitted.items c.push_reserved.new.self.items c.in-Some.one c.loop-i.invariant.5 c.in-Some.ensures.refused c.push_reserved.ensures.items

pub loop-i-preserved : goal.loop-i-preserved
loop-i-preserved g c =
    let F : Request → Type 0 = λ q. AsksFor q c.in-Some.one in
    let next = admitted-next c.args.self.now.requests.now c.loop-i.i c.loop-i.admitted.items c.push_reserved.new.self.items c.index-requests-i.result c.in-Some.one c.loop-i-test.true c.loop-i.invariant.0
    (subst F c.index-requests-i.is c.in-Some.ensures.asks) c.push_reserved.ensures.items in
    let a = ap length c.push_reserved.ensures.items ∙ length-append c.loop-i.admitted.items (c.in-Some.one ∷ []) in (
      next,
      omega (arith, a, c.loop-i.invariant.1),
      grind (arith, common_steps),
      grind (arith, common_steps),
      omega (arith, c.loop-i-test.true),
      refused-push c.args.self.now.engine.now.seals c.loop-i.admitted.items c.push_reserved.new.self.items c.in-Some.one c.loop-i.invariant.5 c.in-Some.ensures.refused c.push_reserved.ensures.items,
    )
