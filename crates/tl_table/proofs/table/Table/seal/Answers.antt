use Rattle.std.proofs.Common.{◌≡◌, ◌<◌, ◌≤◌, ◌+◌, List, ◌++◌, ◌∷◌, [], ◌∙◌, length, sym, subst, ap, arith}
use Rattle.std.specs.Prelude.{vec_capacity}
use Rattle.std.proofs.lemmas.Grind.{common_steps}
use Rattle.tl_table.specs.declared.epoch.TheConstants.{MAX_EPOCHS}
use Rattle.tl_table.specs.Epochs.{EpochValue, epoch_after}
use Rattle.tl_table.specs.Stored.{IsTable}
use Rattle.tl_table.proofs.SealedTables.{table_sealed}
use Rattle.tl_table.proofs.table.Table.seal.Goals as goal

pub invariant_of-self-2 : goal.invariant_of-self-2
invariant_of-self-2 c =
    let sealed = c.self.inside.sealed.items in
    let was = c.self.inside.current in
    let room = vec_capacity c.push_reserved.new.self in
    let items : c.push_reserved.new.self.items ≡ sealed ++ was ∷ []
    = c.push_reserved.ensures.items ∙ ap (λ (es : List EpochValue). es ++ c.new.result ∷ []) c.in-Ok.ensures.items ∙ ap (λ e. sealed ++ e ∷ []) (c.new.ensures ∙ c.cut.ensures ∙ c.replace-sealed.ensures.value) in
    let now : c.replace-sealed.new.dest ≡ epoch_after was = c.replace-sealed.ensures.after ∙ c.in_ok-next.ensures.next in
    let few : length sealed + 1 < MAX_EPOCHS = grind (arith, common_steps) in
    let fits : length sealed + 2 ≤ room = grind (arith, common_steps) in
    subst (λ (es : List EpochValue). IsTable (record { sealed = es; current = c.replace-sealed.new.dest }) room) (sym items)
    (subst (λ (e : EpochValue). IsTable (record { sealed = sealed ++ was ∷ []; current = e }) room) (sym now)
    (table_sealed (record { sealed = sealed; current = was }) _ room c.self.invariant c.lemma_is_rested.ensures few fits))
