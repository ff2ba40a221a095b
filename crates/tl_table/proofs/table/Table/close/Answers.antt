use Rattle.std.proofs.Common.{◌≡◌, ◌++◌, ◌∷◌, [], ◌∙◌, refl, sym, subst, ap}
use Rattle.tl_table.specs.Tables.{IsChain}
use Rattle.tl_table.proofs.SealedTables.{table_chain}
use Rattle.tl_table.proofs.table.Table.close.Goals as goal

-- no call is enabled, so every call is done
pub lemma_is_rested-requires : goal.lemma_is_rested-requires
lemma_is_rested-requires c = rw c.core.ensures at (c.in_default.ensures.none.0 refl)

pub returns-clause-ok : goal.returns-clause-ok
returns-clause-ok c =
    let items : c.push_reserved.new.self.items ≡ c.self.inside.sealed.items ++ c.self.inside.current ∷ []
    = c.push_reserved.ensures.items ∙ ap (λ e. c.self.inside.sealed.items ++ e ∷ []) c.new.ensures in
    rw (← c.self.view_is) (items, c.lemma_is_rested.ensures.done, subst IsChain (sym items) (table_chain _ _ c.self.invariant c.lemma_is_rested.ensures))

pub returns-in-Some-clause-err : goal.returns-in-Some-clause-err
returns-in-Some-clause-err c =
    let none = rw c.core.ensures at c.in-Some.ensures.none in
    rw (← c.self.view_is) (refl, (λ rest. absurd (let n = none.1 rest in let e : ⊥ = cc in e)))
