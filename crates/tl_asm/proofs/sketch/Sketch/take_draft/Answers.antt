use Rattle.std.proofs.Common.{rules, ◌≡◌, ◌≢◌, ◌<◌, ◌++◌, ◌∷◌, [], ◌∙◌, Some, None, length, arith, length-append, sym, subst, option_map}
use Rattle.std.proofs.lemmas.List.{map-append}
use Rattle.std.proofs.lemmas.Bool.{false≢true}
use Rattle.tl_instr.specs.Versions.{HasInstr}
use Rattle.tl_instr.specs.Instructions.{IsInstr}
use Rattle.tl_asm.specs.Statements.{Does, view}
use Rattle.tl_asm.specs.Sketches.{known, traced}
use Rattle.tl_asm.proofs.SketchSteps.{misplaced, early_instr, foreign_instr, too_long, instr_line, is_some_given, none_given, few}
use Rattle.tl_asm.proofs.sketch.Sketch.take_draft.Goals as goal

pub returns-then-is_none-clause-fault : goal.returns-then-is_none-clause-fault
returns-then-is_none-clause-fault c = λ ss sk number _.
    let d = view c.args.draft in
    let longer = length-append ss (Some (Does d) ∷ []) in
    let none : c.args.self.now.arity ≡ None = none_given c.args.self.now.arity c.is_none.result c.is_none.ensures c.if-is_none.true in
    (omega (arith, number, longer), misplaced ss (Some (Does d)) (early_instr _ _ d (sym sk.arity ∙ none)))

pub returns-then-not-is_in-clause-fault : goal.returns-then-not-is_in-clause-fault
returns-then-not-is_in-clause-fault c = λ ss sk number _.
    let d = view c.args.draft in
    let longer = length-append ss (Some (Does d) ∷ []) in
    let other : ¬ HasInstr c.args.self.now.version d.instr = λ has. false≢true (sym c.if-not-is_in.true ∙ c.is_in.ensures.1 has) in
    (omega (arith, number, longer), misplaced ss (Some (Does d)) (foreign_instr _ _ d (λ has. other (subst (λ v. HasInstr v d.instr) (sym sk.version_is) has))))

pub returns-then-len-eq-MAX_COUNT-clause-fault : goal.returns-then-len-eq-MAX_COUNT-clause-fault
returns-then-len-eq-MAX_COUNT-clause-fault c = λ ss sk number _.
    let s = c.args.self.now in
    let some : s.arity ≢ None = is_some_given s.arity c.is_none.result c.is_none.ensures c.if-is_none.false in
    let full : length s.instrs.items ≡ 1024 = search rules in
    too_long ss s.version s.arity (known s.labels.entries) s.instrs.items (traced s.origins.items) sk (view c.args.draft) some (c.is_in.ensures.0 c.if-not-is_in.false) full

pub returns-clause-grown : goal.returns-clause-grown
returns-clause-grown c = λ ss sk number.
    let s = c.args.self.now in
    let d = view c.args.draft in
    let some : s.arity ≢ None = is_some_given s.arity c.is_none.result c.is_none.ensures c.if-is_none.false in
    let most = few ss s.version s.arity (known s.labels.entries) s.instrs.items (traced s.origins.items) sk in
    let instr : IsInstr s.version 0 d.instr = record { in_range = c.requires.in_range; goes_within = c.requires.goes_within; of_version = c.is_in.ensures.0 c.if-not-is_in.false } in
    let len : c.len.result ≡ length s.instrs.items = search rules in
    let different : c.len.result ≢ 1024 = c.if-len-eq-MAX_COUNT.false in
    let some_left : length s.instrs.items < 1024 = omega (arith, different) in
    let instrs : c.push.new.self.items ≡ s.instrs.items ++ d.instr ∷ [] = c.in_ok-push.ensures.items in
    let grown : c.push-2.new.self.items ≡ s.origins.items ++ record { line = c.args.line; label = c.args.draft.label } ∷ [] = c.in_ok-push-2.ensures.items in
    let traces : traced (s.origins.items ++ record { line = c.args.line; label = c.args.draft.label } ∷ []) ≡ traced s.origins.items ++ (c.args.line, d.label) ∷ [] =
    map-append (λ origin. (origin.line, option_map (λ label. label.now) origin.label)) s.origins.items (record { line = c.args.line; label = c.args.draft.label } ∷ []) in
    rw (instrs, grown, traces, number) (instr_line ss s.version s.arity (known s.labels.entries) s.instrs.items (traced s.origins.items) sk d some some_left instr)
