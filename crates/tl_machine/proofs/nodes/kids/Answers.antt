use Rattle.std.proofs.Common.{rules, refl, sym, arith}
use Rattle.tl_machine.proofs.GetAndPut.{kids_is}
use Rattle.tl_machine.proofs.nodes.kids.Goals as goal

pub returns : goal.returns
returns c parents t counted =
    let old = c.args.call.now in
    let at = rw c.index.ensures.same at c.in-Some.is in
    let count = counted.each c.args.node c.in-Some.held at in
    let e = kids_is parents old t c.args.at.now.position c.args.node c.in-Some.held at c.args.to in
    rw (e, sym count, c.go_to.ensures, c.index-2.ensures.same)
    (record { act = refl; to = refl; state = search rules; counters = refl; goes_on = refl; steps = refl; node_count = refl; counted = λ ps k. k; emits = omega arith; reply = search rules })
