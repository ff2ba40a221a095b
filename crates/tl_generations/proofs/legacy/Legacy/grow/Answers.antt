use Rattle.std.proofs.Common.{rules, ◌≡◌, ◌<◌, length, IfErr, ap, arith}
use Rattle.std.proofs.lemmas.Result.{IfErr-weaker}
use Rattle.tl_generations.specs.Generations.{LegacyValue}
use Rattle.tl_generations.specs.Growth.{IsGrowthFault}
use Rattle.tl_generations.specs.declared.growth.GrowthFault.TheVariants as growth
use Rattle.tl_generations.proofs.Growing.{only_memory}
use Rattle.tl_generations.proofs.legacy.Legacy.grow.Goals as goal

pub returns-in_err-tree-clause-taken : goal.returns-in_err-tree-clause-taken
returns-in_err-tree-clause-taken c = λ added can fits.
    let limit = c.args.limit in
    let parents = c.args.self.now.parents in
    let integers = c.args.parents.now in
    let whole = c.shape.ensures.whole in
    let least = whole.shape.some in
    let same = ap (λ (l : LegacyValue). length l.parents) c.self.view_is in
    let some : 0 < length parents = omega (arith, least, same) in
    let fault : IfErr c.from_residual.result (λ e. IsGrowthFault limit (length parents) integers e) = search rules in
    IfErr-weaker c.from_residual.result (λ e. IsGrowthFault limit (length parents) integers e) (λ e. e ≡ growth.Memory)
    (λ e h. only_memory limit parents integers added e some can fits h) fault
