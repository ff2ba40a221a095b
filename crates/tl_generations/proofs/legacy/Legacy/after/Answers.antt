use Rattle.std.proofs.Common.{◌≡◌, ◌∙◌, ◌-◌, length, Some, sym, ap}
use Rattle.std.specs.Prelude.{slice_get}
use Rattle.tl_core.specs.Cores.{CoreState}
use Rattle.tl_generations.proofs.Joined.{legacy, tree_left, chain_left}
use Rattle.tl_generations.proofs.legacy.Legacy.after.Goals as goal

pub returns : goal.returns
returns c = λ before takes.
    let es = c.args.chain.now in
    let last = c.in-Some.last.now in
    let at : slice_get es (length es - 1) ≡ Some last = sym (rw c.in-Some.is at c.last.ensures.value) in
    let same : c.core-core.result.now ≡ last.core = c.core-core.ensures.same in
    let tree_is = c.in-Ok.ensures.ok ∙ c.tree.ensures ∙ ap tree_left same in
    let procedures_are = c.in_ok-procedures.ensures ∙ c.procedures.ensures ∙ ap (λ (it : CoreState). it.seen.procedures) same in
    (λ i. legacy (tree_is i).parents (tree_is i).records (procedures_are i)) ∙ chain_left before es last c.requires takes at
