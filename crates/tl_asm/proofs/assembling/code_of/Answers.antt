use Rattle.std.proofs.Common.{rules, ◌≡◌, ◌∙◌, ◌<◌, List, ℕ, Option, Some, sym, ap, subst, arith, map, length}
use Rattle.std.proofs.lemmas.Bool.Decides.{nat_tests}
use Rattle.std.proofs.lemmas.List.{length-map}
use Rattle.std.proofs.lemmas.Result.{err_from_is_err_and}
use Rattle.tl_instr.specs.declared.instr.Instr.{Instr}
use Rattle.tl_asm.specs.declared.fault.AsmFault.{AsmFault}
use Rattle.tl_asm.specs.declared.fault.AsmFault.TheVariants.{BadLine, NoLabel}
use Rattle.tl_asm.specs.declared.sketch.Origin.{Origin}
use Rattle.tl_asm.specs.Statements.{Said, says}
use Rattle.tl_asm.specs.Texts.{statements, aimed, Written}
use Rattle.tl_asm.specs.Faults.{IsFirstFaultIn}
use Rattle.tl_asm.specs.Sketches.{Sketched, said_by, known, traced, drafts_of, IsAstray}
use Rattle.tl_asm.proofs.SketchToCode.{same_statements, no_arity, no_instr, no_label, is_code, written}
use Rattle.tl_asm.proofs.assembling.code_of.Goals as goal

pub returns-in_err-sketch-clause-fault : goal.returns-in_err-sketch-clause-fault
returns-in_err-sketch-clause-fault c =
    let p = err_from_is_err_and c.from_residual-in_err-sketch.result c.from_residual-in_err-sketch.ensures.1 in
    let same : said_by c.deref.result.now ≡ statements c.args.text.now = same_statements c.args.text.now c.deref.result.now (ap (map (λ line. line.now)) c.deref.ensures.value ∙ c.in_ok-lines.ensures.lines) in
    rw (p.1, p.2) (λ n. subst (λ (ss : List (Option Said)). IsFirstFaultIn ss c.in_err-sketch.field-0.0) same (c.in_err-sketch.ensures.fault n))

pub returns-in_default-clause-fault : goal.returns-in_default-clause-fault
returns-in_default-clause-fault c = λ _.
    let s = c.in_ok-sketch.sketch in
    let same : said_by c.deref.result.now ≡ statements c.args.text.now = same_statements c.args.text.now c.deref.result.now (ap (map (λ line. line.now)) c.deref.ensures.value ∙ c.in_ok-lines.ensures.lines) in
    let long : length (said_by c.deref.result.now) ≡ c.len.result = length-map c.deref.result.now (λ line. says line.now) ∙ search rules in
    let fault = no_arity (said_by c.deref.result.now) s.version s.arity (known s.labels.entries) s.instrs.items (traced s.origins.items) c.in_ok-sketch.ensures.found c.in_default.is in
    subst (λ (ss : List (Option Said)). IsFirstFaultIn ss (BadLine c.len.result)) same (subst (λ (n : ℕ). IsFirstFaultIn (said_by c.deref.result.now) (BadLine n)) long fault)

pub returns-then-is_empty-clause-fault : goal.returns-then-is_empty-clause-fault
returns-then-is_empty-clause-fault c = λ _.
    let s = c.in_ok-sketch.sketch in
    let same : said_by c.deref.result.now ≡ statements c.args.text.now = same_statements c.args.text.now c.deref.result.now (ap (map (λ line. line.now)) c.deref.ensures.value ∙ c.in_ok-lines.ensures.lines) in
    let long : length (said_by c.deref.result.now) ≡ c.len-then-is_empty.result = length-map c.deref.result.now (λ line. says line.now) ∙ search rules in
    let empty : length s.instrs.items ≡ 0 = search rules in
    let fault = no_instr (said_by c.deref.result.now) s.version s.arity (known s.labels.entries) s.instrs.items (traced s.origins.items) c.in_ok-sketch.ensures.found empty in
    subst (λ (ss : List (Option Said)). IsFirstFaultIn ss (BadLine c.len-then-is_empty.result)) same (subst (λ (n : ℕ). IsFirstFaultIn (said_by c.deref.result.now) (BadLine n)) long fault)

pub returns-in_err-instrs-clause-fault : goal.returns-in_err-instrs-clause-fault
returns-in_err-instrs-clause-fault c =
    let s = c.in_ok-sketch.sketch in
    let p = err_from_is_err_and c.from_residual-in_err-instrs.result c.from_residual-in_err-instrs.ensures.1 in
    let same : said_by c.deref.result.now ≡ statements c.args.text.now = same_statements c.args.text.now c.deref.result.now (ap (map (λ line. line.now)) c.deref.ensures.value ∙ c.in_ok-lines.ensures.lines) in
    let some : 0 < length s.instrs.items = grind (arith, nat_tests, c.is_empty.ensures, c.if-is_empty.false) in
    rw (p.1, p.2) (λ n.
    let x = c.in_err-instrs.ensures.fault n in
    let astray : IsAstray (known s.labels.entries) (drafts_of s.instrs.items (traced s.origins.items)) x.0 = subst (λ (os : List Origin). IsAstray (known s.labels.entries) (drafts_of s.instrs.items (traced os)) x.0) c.deref-3.ensures.value (subst (λ (is : List Instr). IsAstray (known s.labels.entries) (drafts_of is (traced c.deref-3.result.now)) x.0) c.deref-2.ensures.value x.2) in
    subst (λ (f : AsmFault). IsFirstFaultIn (statements c.args.text.now) f) (sym x.1) (subst (λ (ss : List (Option Said)). IsFirstFaultIn ss (NoLabel x.0)) same
    (no_label (said_by c.deref.result.now) s.version s.arity (known s.labels.entries) s.instrs.items (traced s.origins.items) c.in_ok-sketch.ensures.found c.in-Some.arity x.0 c.in-Some.is some astray)))

pub unreachable-requires : goal.unreachable-requires
unreachable-requires c =
    let s = c.in_ok-sketch.sketch in
    let some : 0 < length s.instrs.items = grind (arith, nat_tests, c.is_empty.ensures, c.if-is_empty.false) in
    let found : map (λ d. aimed (known s.labels.entries) d.1.instr d.1.label) (drafts_of s.instrs.items (traced s.origins.items)) ≡ map Some c.in_ok-instrs.instrs.items = subst (λ (os : List Origin). map (λ d. aimed (known s.labels.entries) d.1.instr d.1.label) (drafts_of s.instrs.items (traced os)) ≡ map Some c.in_ok-instrs.instrs.items) c.deref-3.ensures.value (subst (λ (is : List Instr). map (λ d. aimed (known s.labels.entries) d.1.instr d.1.label) (drafts_of is (traced c.deref-3.result.now)) ≡ map Some c.in_ok-instrs.instrs.items) c.deref-2.ensures.value c.in_ok-instrs.ensures.found) in
    let accepts = c.of_version.ensures.accepts (is_code (said_by c.deref.result.now) s.version s.arity (known s.labels.entries) s.instrs.items (traced s.origins.items) c.in_ok-sketch.ensures.found c.in-Some.arity c.in_ok-instrs.instrs.items c.in-Some.is some found) in
    c.in_default-fault.not-Memory (rw c.in-Err.is at accepts)

pub returns-in-Ok-clause-found : goal.returns-in-Ok-clause-found
returns-in-Ok-clause-found c =
    let s = c.in_ok-sketch.sketch in
    let same : said_by c.deref.result.now ≡ statements c.args.text.now = same_statements c.args.text.now c.deref.result.now (ap (map (λ line. line.now)) c.deref.ensures.value ∙ c.in_ok-lines.ensures.lines) in
    let some : 0 < length s.instrs.items = grind (arith, nat_tests, c.is_empty.ensures, c.if-is_empty.false) in
    let found : map (λ d. aimed (known s.labels.entries) d.1.instr d.1.label) (drafts_of s.instrs.items (traced s.origins.items)) ≡ map Some c.in_ok-instrs.instrs.items = subst (λ (os : List Origin). map (λ d. aimed (known s.labels.entries) d.1.instr d.1.label) (drafts_of s.instrs.items (traced os)) ≡ map Some c.in_ok-instrs.instrs.items) c.deref-3.ensures.value (subst (λ (is : List Instr). map (λ d. aimed (known s.labels.entries) d.1.instr d.1.label) (drafts_of is (traced c.deref-3.result.now)) ≡ map Some c.in_ok-instrs.instrs.items) c.deref-2.ensures.value c.in_ok-instrs.ensures.found) in
    let sk : Sketched (said_by c.deref.result.now) s.version (Some c.in-Some.arity) (known s.labels.entries) s.instrs.items (traced s.origins.items) = subst (λ (o : Option ℕ). Sketched (said_by c.deref.result.now) s.version o (known s.labels.entries) s.instrs.items (traced s.origins.items)) c.in-Some.is c.in_ok-sketch.ensures.found in
    subst (Written c.args.text.now) (sym c.in-Ok.ensures.value) (written c.args.text.now (said_by c.deref.result.now) s.version (known s.labels.entries) s.instrs.items (traced s.origins.items) c.in-Some.arity c.in_ok-instrs.instrs.items same sk some found)
