use Rattle.std.proofs.Common.{rules, ◌≡◌, ◌≢◌, ◌∷◌, [], ◌∙◌, Some, None, arith, length-append, sym, ap, is_some, true, inl, inr}
use Rattle.tl_instr.specs.declared.version.Version.TheVariants.{One}
use Rattle.tl_asm.specs.Statements.{Version2}
use Rattle.tl_asm.specs.Sketches.{known, traced}
use Rattle.tl_asm.proofs.SketchSteps.{misplaced, late_version, version_line, none_from}
use Rattle.tl_asm.proofs.sketch.Sketch.take_version.Goals as goal

pub returns-then-is_some-clause-fault : goal.returns-then-is_some-clause-fault
returns-then-is_some-clause-fault c = λ ss sk number _.
    let longer = length-append ss (Some Version2 ∷ []) in
    let given : is_some c.args.self.now.arity ≡ true = sym c.is_some.ensures ∙ c.if-is_some.true in
    (omega (arith, number, longer), misplaced ss (Some Version2) (late_version _ _ (inl (ap is_some (sym sk.arity) ∙ given))))

pub returns-then-ne-clause-fault : goal.returns-then-ne-clause-fault
returns-then-ne-clause-fault c = λ ss sk number _.
    let longer = length-append ss (Some Version2 ∷ []) in
    let other : c.args.self.now.version ≢ One = search rules in
    (omega (arith, number, longer), misplaced ss (Some Version2) (late_version _ _ (inr (λ e. other (sk.version_is ∙ e)))))

pub returns-clause-grown : goal.returns-clause-grown
returns-clause-grown c = λ ss sk.
    let s = c.args.self.now in
    let none : s.arity ≡ None = none_from s.arity c.is_some.result c.is_some.ensures c.if-is_some.false in
    let first : s.version ≡ One = search rules in
    version_line ss s.version s.arity (known s.labels.entries) s.instrs.items (traced s.origins.items) sk first none
