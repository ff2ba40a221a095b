use Rattle.std.proofs.Common.{◌≡◌, IfErr, subst}
use Rattle.tl_procedures.specs.Names.{AreKnown}
use Rattle.tl_procedures.specs.declared.fault.ReplacingFault.TheVariants as replacing
use Rattle.tl_generations.specs.Generations.{LegacyValue}
use Rattle.tl_generations.proofs.legacy.Legacy.replace.Goals as goal

pub returns-clause-fault : goal.returns-clause-fault
returns-clause-fault c =
    subst (λ (l : LegacyValue). IfErr c.replace_all.result (λ e. e ≡ replacing.NoProcedure → AreKnown l.procedures c.args.others.now → ⊥)) c.self.view_is c.replace_all.ensures.fault
