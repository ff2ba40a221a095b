use Rattle.std.proofs.Common.{List, ℕ, Option, option_map, Bor}
use Rattle.tl_sources.proofs.source.procedure_of.Goals as goal

pub returns-in-Assembler-clause-ok : goal.returns-in-Assembler-clause-ok
returns-in-Assembler-clause-ok c =
    let name : Option (List ℕ) = option_map (λ (n : Bor (List ℕ)). n.now) c.args.name in
    rw c.in-Assembler.is (c.procedure_of_assembler.ensures.ok name)

pub returns-in-Assembler-clause-fault : goal.returns-in-Assembler-clause-fault
returns-in-Assembler-clause-fault c =
    let name : Option (List ℕ) = option_map (λ (n : Bor (List ℕ)). n.now) c.args.name in
    rw c.in-Assembler.is (c.procedure_of_assembler.ensures.fault name)

pub returns-in-Container-clause-ok : goal.returns-in-Container-clause-ok
returns-in-Container-clause-ok c =
    let name : Option (List ℕ) = option_map (λ (n : Bor (List ℕ)). n.now) c.args.name in
    rw c.in-Container.is (c.procedure_of_container.ensures.ok name)

pub returns-in-Container-clause-fault : goal.returns-in-Container-clause-fault
returns-in-Container-clause-fault c =
    let name : Option (List ℕ) = option_map (λ (n : Bor (List ℕ)). n.now) c.args.name in
    rw c.in-Container.is (c.procedure_of_container.ensures.fault name)
