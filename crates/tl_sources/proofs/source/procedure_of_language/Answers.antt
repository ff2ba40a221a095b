use Rattle.std.proofs.Common.{ℕ, List, Option, option_map, Bor, arith, subst, ap, inr}
use Rattle.tl_instr.specs.Codes.{CodeValue}
use Rattle.tl_lowering.specs.Sound.{IsInOrder}
use Rattle.tl_compiler.proofs.MeantLemmas.{source_of, no_source}
use Rattle.tl_meaning.specs.Calls.{DoesCall}
use Rattle.tl_sources.proofs.SourceLemmas.{of_meant}
use Rattle.tl_sources.proofs.source.procedure_of_language.Goals as goal

pub returns-clause-ok : goal.returns-clause-ok
returns-clause-ok c =
    let name : Option (List ℕ) = option_map (λ (n : Bor (List ℕ)). n.now) c.args.name in
    let text = c.in_ok-compiled.ensures.compiled in
    let found = source_of text.sources c.in_ok-compiled.compiled.items name c.in-Ok.one text.each c.in-Ok.ensures in
    let order = of_meant IsInOrder text.sources name found.0 text.in_order found.1 in
    record {
      utf8 = text.utf8;
      sources = text.sources;
      source = found.0;
      program = text.program;
      meant = found.1;
      in_order = order;
      accepted = found.2.accepted;
      does = λ parents args t long.
          subst (λ (k : CodeValue). DoesCall k.instrs parents found.0.body args t) found.2.code
          (c.procedures.ensures found.0.arity parents found.0.body args t (ap (λ (k : CodeValue). k.instrs) found.2.code) order.sound order.handled (omega (arith, long, order.few)));
      same = found.2.code;
    }

pub returns-in-Err-clause-fault : goal.returns-in-Err-clause-fault
returns-in-Err-clause-fault c = λ known.
    let name : Option (List ℕ) = option_map (λ (n : Bor (List ℕ)). n.now) c.args.name in
    let text = c.in_ok-compiled.ensures.compiled in
    let none = no_source text.sources c.in_ok-compiled.compiled.items name text.each c.in-Err.ensures.1 in
    inr (c.in-Err.ensures.0, record { sources = text.sources; program = text.program; none = none })
