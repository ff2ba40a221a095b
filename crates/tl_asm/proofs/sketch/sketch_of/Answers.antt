use Rattle.std.proofs.Common.{ℕ, ◌≡◌, ◌<◌, ◌+◌, ◌++◌, ◌∷◌, [], ◌∙◌, List, None, Option, Some, take, length, sym, ap, subst, arith, length-append}
use Rattle.std.proofs.lemmas.List.{length-map, length-take-le, take_all}
use Rattle.std.proofs.lemmas.Result.{err_from_is_err_and}
use Rattle.tl_asm.specs.declared.fault.AsmFault.TheVariants.{BadLine}
use Rattle.tl_asm.specs.Statements.{Said, Blank, Version2, Takes, Names, Does, shown, view, says}
use Rattle.tl_asm.specs.Sketches.{IsSketch, said_by, known, traced}
use Rattle.tl_asm.proofs.SketchSteps.{misplaced, no_form, first_fault, next_says, blank_line}
use Rattle.tl_asm.proofs.sketch.sketch_of.Goals.{in-Blank, in-Version2+in_ok-take_version-in-Version2, in-Takes+in_ok-take_arity-in-Takes, in-Names+in_ok-take_label-in-Names, in-Does+in_ok-take_draft-in-Does}
use Rattle.tl_asm.proofs.sketch.sketch_of.Goals as goal

pub returns-in_default-clause-fault : goal.returns-in_default-clause-fault
returns-in_default-clause-fault c = λ _.
    let ss = said_by c.args.lines.now in
    let k = c.loop-index.index in
    let lt : k < length ss = omega (arith, length-map c.args.lines.now (λ line. says line.now)) in
    let here = next_says c.args.lines.now k (record { ref_ptr = (0, 0); now = [] }) None (omega arith) (ap says (sym c.as_bytes.ensures.value) ∙ c.in_default.ensures.found) in
    let number : k + 1 ≡ length (take k ss ++ None ∷ []) = sym (length-append (take k ss) (None ∷ []) ∙ ap (λ (n : ℕ). n + 1) (length-take-le k ss (omega arith))) in
    first_fault ss k None (BadLine (k + 1)) lt c.loop-index.invariant.begin here (number, misplaced (take k ss) None (no_form _ _))

pub returns-in_err-take_version-in-Version2-clause-fault : goal.returns-in_err-take_version-in-Version2-clause-fault
returns-in_err-take_version-in-Version2-clause-fault c =
    let p = err_from_is_err_and c.from_residual.result c.from_residual.ensures.1 in
    let ss = said_by c.args.lines.now in
    let k = c.loop-index.index in
    let lt : k < length ss = omega (arith, length-map c.args.lines.now (λ line. says line.now)) in
    let number : k + 1 ≡ length (take k ss) + 1 = ap (λ (n : ℕ). n + 1) (sym (length-take-le k ss (omega arith))) in
    let here = next_says c.args.lines.now k (record { ref_ptr = (0, 0); now = [] }) (Some Version2) (omega arith) (ap says (sym c.as_bytes.ensures.value) ∙ c.in-Some.ensures.found ∙ ap (λ s. Some (shown s)) c.in-Version2.is) in
    rw (p.1, p.2) (λ n. first_fault ss k (Some Version2) c.in_err-take_version-in-Version2.field-0.0 lt c.loop-index.invariant.begin here (c.in_err-take_version-in-Version2.ensures.fault (take k ss) c.loop-index.invariant number n))

pub returns-in_err-take_arity-in-Takes-clause-fault : goal.returns-in_err-take_arity-in-Takes-clause-fault
returns-in_err-take_arity-in-Takes-clause-fault c =
    let p = err_from_is_err_and c.from_residual-in_err-take_arity-in-Takes.result c.from_residual-in_err-take_arity-in-Takes.ensures.1 in
    let ss = said_by c.args.lines.now in
    let k = c.loop-index.index in
    let lt : k < length ss = omega (arith, length-map c.args.lines.now (λ line. says line.now)) in
    let number : k + 1 ≡ length (take k ss) + 1 = ap (λ (n : ℕ). n + 1) (sym (length-take-le k ss (omega arith))) in
    let here = next_says c.args.lines.now k (record { ref_ptr = (0, 0); now = [] }) (Some (Takes c.in-Takes.arity)) (omega arith) (ap says (sym c.as_bytes.ensures.value) ∙ c.in-Some.ensures.found ∙ ap (λ s. Some (shown s)) c.in-Takes.is) in
    rw (p.1, p.2) (λ n. first_fault ss k (Some (Takes c.in-Takes.arity)) c.in_err-take_arity-in-Takes.field-0.0 lt c.loop-index.invariant.begin here (c.in_err-take_arity-in-Takes.ensures.fault (take k ss) c.loop-index.invariant number n))

pub returns-in_err-take_label-in-Names-clause-fault : goal.returns-in_err-take_label-in-Names-clause-fault
returns-in_err-take_label-in-Names-clause-fault c =
    let p = err_from_is_err_and c.from_residual-in_err-take_label-in-Names.result c.from_residual-in_err-take_label-in-Names.ensures.1 in
    let ss = said_by c.args.lines.now in
    let k = c.loop-index.index in
    let lt : k < length ss = omega (arith, length-map c.args.lines.now (λ line. says line.now)) in
    let number : k + 1 ≡ length (take k ss) + 1 = ap (λ (n : ℕ). n + 1) (sym (length-take-le k ss (omega arith))) in
    let here = next_says c.args.lines.now k (record { ref_ptr = (0, 0); now = [] }) (Some (Names c.in-Names.label.now)) (omega arith) (ap says (sym c.as_bytes.ensures.value) ∙ c.in-Some.ensures.found ∙ ap (λ s. Some (shown s)) c.in-Names.is) in
    rw (p.1, p.2) (λ n. first_fault ss k (Some (Names c.in-Names.label.now)) c.in_err-take_label-in-Names.field-0.0 lt c.loop-index.invariant.begin here (c.in_err-take_label-in-Names.ensures.fault (take k ss) c.loop-index.invariant number n))

pub returns-in_err-take_draft-in-Does-clause-fault : goal.returns-in_err-take_draft-in-Does-clause-fault
returns-in_err-take_draft-in-Does-clause-fault c =
    let p = err_from_is_err_and c.from_residual-in_err-take_draft-in-Does.result c.from_residual-in_err-take_draft-in-Does.ensures.1 in
    let ss = said_by c.args.lines.now in
    let k = c.loop-index.index in
    let lt : k < length ss = omega (arith, length-map c.args.lines.now (λ line. says line.now)) in
    let number : k + 1 ≡ length (take k ss) + 1 = ap (λ (n : ℕ). n + 1) (sym (length-take-le k ss (omega arith))) in
    let here = next_says c.args.lines.now k (record { ref_ptr = (0, 0); now = [] }) (Some (Does (view c.in-Does.draft))) (omega arith) (ap says (sym c.as_bytes.ensures.value) ∙ c.in-Some.ensures.found ∙ ap (λ s. Some (shown s)) c.in-Does.is) in
    rw (p.1, p.2) (λ n. first_fault ss k (Some (Does (view c.in-Does.draft))) c.in_err-take_draft-in-Does.field-0.0 lt c.loop-index.invariant.begin here (c.in_err-take_draft-in-Does.ensures.fault (take k ss) c.loop-index.invariant number n))

pub loop-index-preserved : goal.loop-index-preserved
loop-index-preserved c =
    let ss = said_by c.args.lines.now in
    let k = c.loop-index.index in
    let s = c.loop-index.sketch in
    let inv = c.loop-index.invariant in
    let lt : k < length ss = omega (arith, length-map c.args.lines.now (λ line. says line.now)) in
    let number : k + 1 ≡ length (take k ss) + 1 = ap (λ (n : ℕ). n + 1) (sym (length-take-le k ss (omega arith))) in
    let here : (x : Said) → shown c.in-Some.statement ≡ x → take (k + 1) ss ≡ take k ss ++ Some x ∷ [] = λ x e. next_says c.args.lines.now k (record { ref_ptr = (0, 0); now = [] }) (Some x) (omega arith) (ap says (sym c.as_bytes.ensures.value) ∙ c.in-Some.ensures.found ∙ ap Some e) in
    elim c.match-statement.branch [
      | in-Blank w ↦
          rw (here Blank (ap shown w.in-Blank.is), w.sketch-is) (blank_line (take k ss) s.version s.arity (known s.labels.entries) s.instrs.items (traced s.origins.items) inv)
      | in-Version2+in_ok-take_version-in-Version2 w ↦
          rw (here Version2 (ap shown w.in-Version2.is), w.sketch-is) (w.in_ok-take_version-in-Version2.ensures.grown (take k ss) inv)
      | in-Takes+in_ok-take_arity-in-Takes w ↦
          rw (here (Takes w.in-Takes.arity) (ap shown w.in-Takes.is), w.sketch-is) (w.in_ok-take_arity-in-Takes.ensures.grown (take k ss) inv)
      | in-Names+in_ok-take_label-in-Names w ↦
          rw (here (Names w.in-Names.label.now) (ap shown w.in-Names.is), w.sketch-is) (w.in_ok-take_label-in-Names.ensures.grown (take k ss) inv)
      | in-Does+in_ok-take_draft-in-Does w ↦
          rw (here (Does (view w.in-Does.draft)) (ap shown w.in-Does.is), w.sketch-is) (w.in_ok-take_draft-in-Does.ensures.grown (take k ss) inv number)
    ]

pub returns-clause-found : goal.returns-clause-found
returns-clause-found c =
    let ss = said_by c.args.lines.now in
    let all : take c.loop-index.index ss ≡ ss = take_all c.loop-index.index ss (omega (arith, length-map c.args.lines.now (λ line. says line.now))) in
    subst (λ (xs : List (Option Said)). IsSketch xs c.loop-index.sketch) all c.loop-index.invariant
