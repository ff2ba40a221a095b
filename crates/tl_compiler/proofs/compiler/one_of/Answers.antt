use Rattle.std.proofs.Common.{◌≡◌, List, ℕ, Option, Some, option_map, MatchResult, Bor, sym, subst}
use Rattle.tl_compiler.specs.declared.compiler.Compiled.{Compiled}
use Rattle.tl_compiler.specs.declared.fault.CompileFault.{CompileFault}
use Rattle.tl_compiler.specs.declared.fault.CompileFault.TheVariants.{NotOne}
use Rattle.tl_compiler.specs.Compiled.{IsMeant, made_name}
use Rattle.tl_compiler.proofs.MeantLemmas.{answered}
use Rattle.tl_compiler.proofs.compiler.one_of.Goals as goal

pub returns-in-Some : goal.returns-in-Some
returns-in-Some c =
    let all = c.args.procedures.items in
    subst (λ (n : Option (Bor (List ℕ))).
    let meant = IsMeant made_name (option_map (λ (b : Bor (List ℕ)). b.now) n) all in
    MatchResult c.ok_or.result meant (λ (e : CompileFault). (e ≡ NotOne) × ((one : Compiled) → meant one → ⊥)))
    (sym c.in-Some.is)
    (answered (IsMeant made_name (Some c.in-Some.name.now) all) c.named.result NotOne c.ok_or.result c.ok_or.ensures.value c.named.ensures)
