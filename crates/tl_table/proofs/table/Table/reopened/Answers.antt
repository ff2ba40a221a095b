use Rattle.std.proofs.Common.{◌≡◌, ◌++◌, ◌∷◌, [], sym, subst, arith, ap, ◌∙◌}
use Rattle.std.proofs.lemmas.Grind.{common_steps}
use Rattle.tl_table.specs.Tables.{IsChain}
use Rattle.tl_table.proofs.SealedTables.{chain_table}
use Rattle.tl_table.proofs.table.Table.reopened.Goals as goal

pub invariant_of-result : goal.invariant_of-result
invariant_of-result c =
    let parts : c.args.chain.items ≡ c.pop.new.self.items ++ c.in-Some.last ∷ [] = c.in-Some.ensures.items in
    let chain = subst IsChain (parts ∙ ap (λ e. c.pop.new.self.items ++ e ∷ []) (sym c.into_epoch.ensures)) c.requires in
    chain_table c.pop.new.self.items c.into_epoch.result _ chain (grind (arith, common_steps))
