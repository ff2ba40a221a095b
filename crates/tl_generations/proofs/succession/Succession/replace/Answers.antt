use Rattle.std.proofs.Common.{◌≡◌, IfErr, subst}
use Rattle.tl_procedures.specs.Names.{AreKnown}
use Rattle.tl_procedures.specs.declared.fault.ReplacingFault.TheVariants as replacing
use Rattle.tl_generations.specs.Generations.{SuccessionValue}
use Rattle.tl_generations.proofs.Joined.{replaces}
use Rattle.tl_generations.proofs.succession.Succession.replace.Goals as goal

pub invariant_of-self : goal.invariant_of-self
invariant_of-self c =
    replaces c.self.inside.first c.self.inside.last c.replace.new.self c.args.others.now c.replace.result c.self.invariant c.replace.ensures.replaced c.replace.ensures.err

pub returns-clause-fault : goal.returns-clause-fault
returns-clause-fault c =
    subst (λ (s : SuccessionValue). IfErr c.replace.result (λ e. e ≡ replacing.NoProcedure → AreKnown s.last.procedures c.args.others.now → ⊥)) c.self.view_is c.replace.ensures.fault
