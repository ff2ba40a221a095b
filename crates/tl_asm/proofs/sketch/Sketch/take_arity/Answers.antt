use Rattle.std.proofs.Common.{◌≡◌, ◌∷◌, [], ◌∙◌, Some, None, arith, length-append, sym, ap, is_some, true}
use Rattle.tl_asm.specs.Statements.{Takes}
use Rattle.tl_asm.specs.Sketches.{known, traced}
use Rattle.tl_asm.proofs.SketchSteps.{misplaced, second_arity, arity_line, none_from}
use Rattle.tl_asm.proofs.sketch.Sketch.take_arity.Goals as goal

pub returns-then-is_some-clause-fault : goal.returns-then-is_some-clause-fault
returns-then-is_some-clause-fault c = λ ss sk number _.
    let longer = length-append ss (Some (Takes c.args.arity) ∷ []) in
    let given : is_some c.args.self.now.arity ≡ true = sym c.is_some.ensures ∙ c.if-is_some.true in
    (omega (arith, number, longer), misplaced ss (Some (Takes c.args.arity)) (second_arity _ _ c.args.arity (ap is_some (sym sk.arity) ∙ given)))

pub returns-clause-grown : goal.returns-clause-grown
returns-clause-grown c = λ ss sk.
    let s = c.args.self.now in
    let none : s.arity ≡ None = none_from s.arity c.is_some.result c.is_some.ensures c.if-is_some.false in
    arity_line ss s.version s.arity (known s.labels.entries) s.instrs.items (traced s.origins.items) sk c.args.arity none c.requires
