use Rattle.std.proofs.Common.{◌≡◌, ◌∙◌, List, Option, sym, ap, subst, map}
use Rattle.std.proofs.lemmas.Result.{err_from_is_err_and}
use Rattle.tl_asm.specs.declared.sketch.Origin.{Origin}
use Rattle.tl_asm.specs.Statements.{Said}
use Rattle.tl_asm.specs.Texts.{statements, lines_of_instrs}
use Rattle.tl_asm.specs.Faults.{IsFirstFaultIn}
use Rattle.tl_asm.specs.Sketches.{said_by}
use Rattle.tl_asm.proofs.SketchToCode.{same_statements}
use Rattle.tl_asm.proofs.InstructionLines.{lines_said}
use Rattle.tl_asm.proofs.assembling.instruction_lines.Goals as goal

pub returns-in_err-sketch-clause-fault : goal.returns-in_err-sketch-clause-fault
returns-in_err-sketch-clause-fault c =
    let p = err_from_is_err_and c.from_residual-in_err-sketch.result c.from_residual-in_err-sketch.ensures.1 in
    let same : said_by c.deref.result.now ≡ statements c.args.text.now = same_statements c.args.text.now c.deref.result.now (ap (map (λ line. line.now)) c.deref.ensures.value ∙ c.in_ok-lines.ensures.lines) in
    rw (p.1, p.2) (λ n. subst (λ (ss : List (Option Said)). IsFirstFaultIn ss c.in_err-sketch.field-0.0) same (c.in_err-sketch.ensures.fault n))

pub returns-clause-lines : goal.returns-clause-lines
returns-clause-lines c =
    let s = c.in_ok-sketch.sketch in
    let same : said_by c.deref.result.now ≡ statements c.args.text.now = same_statements c.args.text.now c.deref.result.now (ap (map (λ line. line.now)) c.deref.ensures.value ∙ c.in_ok-lines.ensures.lines) in
    let lines : map (λ origin. origin.line) s.origins.items ≡ lines_of_instrs c.args.text.now = lines_said c.args.text.now (said_by c.deref.result.now) s.origins.items c.in_ok-sketch.ensures.found.origins same in
    c.in_ok-lines_in.ensures ∙ ap (map (λ (origin : Origin). origin.line)) c.deref-2.ensures.value ∙ lines
