use Rattle.std.proofs.Common.{reverse, map, ap, ◌∙◌}
use Rattle.std.proofs.lemmas.Iterator.Consumers.{YieldsList-end}
use Rattle.std.proofs.lemmas.Iterator.Adapters.{YieldsList-from_rev_slice}
use Rattle.tl_compiler.specs.Aiming.{aimed}
use Rattle.tl_compiler.proofs.compiler.instrs_of.Goals as goal

pub returns-clause-instrs : goal.returns-clause-instrs
returns-clause-instrs c =
    let all = c.args.draft.now.instrs.items in
    let t = YieldsList-end (YieldsList-from_rev_slice all cc) c.loop-instr.yielded _ c.loop-instr.yielded_by _ _ c.in-None.is c.next.ensures.steps in
    c.loop-instr.invariant.made ∙ ap (map (aimed _)) t.0 ∙ ap (λ n. map (aimed n) (reverse all)) c.loop-instr.invariant.count
