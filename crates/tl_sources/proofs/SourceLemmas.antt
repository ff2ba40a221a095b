-- The procedures of a text of the procedure language.
use Rattle.std.proofs.Common.{◌≡◌, ◌<◌, ℕ, zero, suc, arith, length, slice_index_or, List, [], ◌∷◌, map, Option, Some, None, All, refl, subst}
use Rattle.std.proofs.lemmas.List.Elements.{All-nil, All-cons, All-head, All-tail}
use Rattle.tl_instr.specs.Codes.{IsCode}
use Rattle.tl_verify.specs.Acceptable.{Acceptable}
use Rattle.tl_procedures.specs.Names.{Named}
use Rattle.tl_lowering.specs.declared.program.Procedure.{Procedure}
use Rattle.tl_lowering.specs.Sound.{IsInOrder}
use Rattle.tl_compiler.specs.declared.compiler.Compiled.{Compiled}
use Rattle.tl_compiler.specs.Compiled.{Compiles, IsCompiled, AreCompiled, IsMeant, source_name, code_of_procedure}
use Rattle.tl_compiler.specs.Statements.{procedure_code}
use Rattle.tl_meaning.proofs.CallRuns.{call_runs, accepted_runs}
use Rattle.tl_sources.specs.Sources.{named, made, DoesItsCalls, ProvidesAll}

-- ---- one procedure

pub made_of_source : (source : Procedure) (c : Compiled) → IsCompiled source c → made c ≡ named source
made_of_source source c is = rw (is.name, is.code) refl

-- a property of all procedures is one of the procedure that is meant
pub of_meant : (P : Procedure → Type 0) (sources : List Procedure) (name : Option (List ℕ)) (source : Procedure) → All P sources → IsMeant source_name name sources source → P source
of_meant P sources (Some name) source all meant = subst P meant.0.2 (all meant.0.0 source meant.0.1)
of_meant P sources None source all meant = subst (All P) meant all 0 source (omega arith)

does_its_calls : (source : Procedure) (c : Compiled) → IsInOrder source → IsCompiled source c → IsCode c.procedure → DoesItsCalls source
does_its_calls source c order is code = λ parents args t long.
    let own : IsCode (code_of_procedure source) = subst IsCode is.code code in
    let runs = accepted_runs (procedure_code source.arity source.body) (code_of_procedure source) own is.accepted refl in
    call_runs source.arity parents source.body runs order.handled order.sound args t (omega (arith, long, order.few))

-- ---- all of them

all_made : (sources : List Procedure) (cs : List Compiled) → AreCompiled sources cs → map made cs ≡ map named sources
all_made [] [] each = refl
all_made [] (c ∷ cs) each = absurd each
all_made (p ∷ ps) [] each = absurd each
all_made (p ∷ ps) (c ∷ cs) each = rw (made_of_source p c each.0, all_made ps cs each.1) refl

all_accepted : (sources : List Procedure) (cs : List Compiled) → AreCompiled sources cs → (k : ℕ) (d : Procedure) → k < length sources
    → Acceptable (code_of_procedure (slice_index_or sources k d)).instrs
all_accepted [] [] each k d inside = absurd (omega (arith, inside))
all_accepted [] (c ∷ cs) each k d inside = absurd each
all_accepted (p ∷ ps) [] each k d inside = absurd each
all_accepted (p ∷ ps) (c ∷ cs) each zero d inside = each.0.accepted
all_accepted (p ∷ ps) (c ∷ cs) each (suc k) d inside = all_accepted ps cs each.1 k d (omega (arith, inside))

all_do_calls : (sources : List Procedure) (cs : List Compiled) → All IsInOrder sources → AreCompiled sources cs → All (λ c. IsCode c.procedure) cs → All DoesItsCalls sources
all_do_calls [] [] order each codes = All-nil DoesItsCalls
all_do_calls [] (c ∷ cs) order each codes = absurd each
all_do_calls (p ∷ ps) [] order each codes = absurd each
all_do_calls (p ∷ ps) (c ∷ cs) order each codes =
    All-cons DoesItsCalls p ps (does_its_calls p c (All-head IsInOrder p ps order) each.0 (All-head (λ (x : Compiled). IsCode x.procedure) c cs codes))
    (all_do_calls ps cs (All-tail IsInOrder p ps order) each.1 (All-tail (λ (x : Compiled). IsCode x.procedure) c cs codes))

pub provides : (text : List ℕ) (cs : List Compiled) (found : List Named) → Compiles text cs → All (λ c. IsCode c.procedure) cs → found ≡ map made cs → ProvidesAll text found
provides text cs found is codes same = record {
  utf8 = is.utf8;
  sources = is.sources;
  program = is.program;
  in_order = is.in_order;
  accepted = all_accepted is.sources cs is.each;
  does = all_do_calls is.sources cs is.in_order is.each codes;
  same = rw (same, all_made is.sources cs is.each) refl;
}
