use Rattle.std.proofs.Common.{◌∙◌, sym}
use Rattle.tl_lowering.specs.Paths.{passed_of}
use Rattle.tl_lowering.specs.Sets.{holds}
use Rattle.tl_lowering.proofs.BitLemmas.{taken_over}
use Rattle.tl_lowering.proofs.paths.Held.taking.Goals as goal

pub returns-then-has_visited-clause-passed : goal.returns-then-has_visited-clause-passed
returns-then-has_visited-clause-passed c =
    let passed = passed_of c.args.self in
    c.visiting.ensures.passed
    ∙ taken_over passed c.args.register (holds passed c.args.from) (passed_of c.without-taken.result) (c.without-taken.ensures.passed ∙ c.with.ensures.passed)
    (sym c.has_visited.ensures ∙ c.if-has_visited.true)
