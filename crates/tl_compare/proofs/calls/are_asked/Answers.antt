use Rattle.std.proofs.Common.{rules, IsTrue, length, refl, arith}
use Rattle.std.proofs.lemmas.Option.{slice_get_read, slice_get_within}
use Rattle.tl_recover.specs.Redriven.{IsAsked}
use Rattle.tl_compare.proofs.RowLemmas.{each_more}
use Rattle.tl_compare.proofs.calls.are_asked.Goals as goal

pub loop-call-preserved : goal.loop-call-preserved
loop-call-preserved c =
    let requests = c.args.requests.now in
    let call = c.loop-call.call in
    let asked : IsTrue c.is_asked.result = search rules in
    each_more (IsAsked c.args.core.now.seen) requests call c.index-requests-call.result (slice_get_read requests (length requests) call c.index-requests-call.result refl (omega arith) c.index-requests-call.is)
    (c.is_asked.ensures.0 asked) c.loop-call.invariant

pub returns : goal.returns
returns c = (
  λ yes. record { many = search rules; each = λ n r found. c.loop-call.invariant n r (let less = slice_get_within c.args.requests.now n r found in omega arith) found },
  λ all. refl,
)
