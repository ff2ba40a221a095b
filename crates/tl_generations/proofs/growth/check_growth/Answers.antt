use Rattle.std.proofs.Common.{map, unsigned_abs, ◌+◌, ◌≤◌, length, subst, arith}
use Rattle.std.proofs.lemmas.Result.{on_ok_weaker}
use Rattle.tl_tree.specs.declared.shape.TheConstants.{MAX_NODES}
use Rattle.tl_generations.specs.Growth.{AreLower}
use Rattle.tl_generations.proofs.Growing.{can_grow}
use Rattle.tl_generations.proofs.growth.check_growth.Goals as goal

pub returns-clause-ok : goal.returns-clause-ok
returns-clause-ok c =
    let shape = c.args.shape.now in
    let parents = c.args.parents.now in
    let tree = c.node_count-first.ensures.tree in
    let few : length shape + length parents ≤ MAX_NODES = omega arith in
    let count = c.node_count-first.ensures.count in
    on_ok_weaker c.check_parents.result
    (λ lower. can_grow shape parents tree few (subst (λ n. AreLower n parents (length parents)) count lower)) c.check_parents.ensures.ok
