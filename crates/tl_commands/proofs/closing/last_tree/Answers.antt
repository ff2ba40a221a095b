use Rattle.std.proofs.Common.{◌≡◌, ◌-◌, length, Some, refl, sym, ap, ◌∙◌}
use Rattle.std.specs.Prelude.{slice_get}
use Rattle.tl_core.specs.Cores.{CoreState}
use Rattle.tl_commands.specs.Scripted.{tree_now}
use Rattle.tl_commands.proofs.ClosingLemmas.{last_tree}
use Rattle.tl_commands.proofs.closing.last_tree.Goals as goal

pub returns : goal.returns
returns c =
    let es = c.args.chain.now in
    let last = c.in-Some.last.now in
    let at : slice_get es (length es - 1) ≡ Some last = sym (rw c.in-Some.is at c.last.ensures.value) in
    let same : c.core.result.now ≡ last.core = c.core.ensures.same in
    c.tree.ensures ∙ ap (λ (it : CoreState). tree_now it.seen) same ∙ last_tree es (length es - 1) last refl at
