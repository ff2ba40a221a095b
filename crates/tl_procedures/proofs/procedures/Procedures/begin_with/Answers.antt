use Rattle.std.proofs.Common.{◌≡◌, ◌∙◌, ◌<◌, false, true, length, get_or, refl, sym, arith}
use Rattle.tl_procedures.specs.Names.{KeepsNames, no_procedure}
use Rattle.tl_procedures.proofs.Prefixes.{begins_keeps, keeps_shorter, name_at, same_named, prefix_more, prefix_whole}
use Rattle.tl_procedures.proofs.procedures.Procedures.begin_with.Goals as goal

pub returns-then-not-keep_names : goal.returns-then-not-keep_names
returns-then-not-keep_names c = (
  (λ t. absurd (let e : ⊥ = cc in e)),
  (λ b. absurd (let e : false ≡ true = sym c.if-not-keep_names.true ∙ c.keep_names.ensures.1 (begins_keeps c.args.first.now c.args.self.now b) in cc)),
)

pub loop-number-preserved : goal.loop-number-preserved
loop-number-preserved c =
    let xs = c.args.first.now in
    let ys = c.args.self.now in
    let n = c.loop-number.number in
    let end = c.len-number-end.ensures.value in
    let test = c.loop-number-test.true in
    let inside : n < length xs = omega (arith, end, test) in
    let keeps : KeepsNames xs ys = c.keep_names.ensures.0 c.if-not-keep_names.false in
    let shorter = keeps_shorter xs ys keeps in
    let within : n < length ys = omega (arith, inside, shorter) in
    let codes = c.is.ensures.0 c.if-not-is.false in
    prefix_more xs ys n inside within c.loop-number.invariant
    (same_named (get_or ys n no_procedure) (get_or xs n no_procedure) (name_at xs ys n keeps inside)
    (sym c.get.ensures ∙ sym c.deref.ensures ∙ codes ∙ c.deref-in-loop-number.ensures ∙ c.get-in-loop-number.ensures))

pub returns : goal.returns
returns c =
    let at : c.loop-number.number ≡ length c.args.first.now = (let n = c.len-number-end.ensures.value in let l = c.loop-number-test.false in let e = c.loop-number.auto.number-end in omega (arith, n, l, e)) in
    ((λ t. prefix_whole c.args.first.now c.args.self.now c.loop-number.number at c.loop-number.invariant), (λ b. refl))
