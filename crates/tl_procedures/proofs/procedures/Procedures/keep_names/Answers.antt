use Rattle.std.proofs.Common.{◌≡◌, ◌∙◌, ◌<◌, false, true, length, refl, sym, arith}
use Rattle.std.proofs.lemmas.Bool.Decides.{Decides-eqb}
use Rattle.std.proofs.lemmas.Slice.Eq.{slice_eq-Decides}
use Rattle.tl_procedures.proofs.Prefixes.{not_true, not_false, name_at, names_more, names_whole}
use Rattle.tl_procedures.proofs.procedures.Procedures.keep_names.Goals as goal

pub returns-then-ne : goal.returns-then-ne
returns-then-ne c = (
  (λ t. absurd (let e : ⊥ = cc in e)),
  (λ b.
      let inside : c.loop-number.number < length c.args.first.now = (let n = c.len-number-end.ensures.value in let l = c.loop-number-test.true in omega (arith, n, l)) in
      let names : c.name.result.now ≡ c.name-in-loop-number.result.now = c.name.ensures ∙ name_at c.args.first.now c.args.self.now c.loop-number.number b inside ∙ sym c.name-in-loop-number.ensures in
      let same = (slice_eq-Decides Decides-eqb c.name.result.now c.name-in-loop-number.result.now _ refl).1 names in
      let other = not_true _ (sym c.ne.ensures ∙ c.if-ne.true) in
      absurd (let e : false ≡ true = sym other ∙ same in cc)),
)

pub loop-number-preserved : goal.loop-number-preserved
loop-number-preserved c =
    let xs = c.args.first.now in
    let ys = c.args.self.now in
    let n = c.loop-number.number in
    let end = c.len-number-end.ensures.value in
    let test = c.loop-number-test.true in
    let inside : n < length xs = omega (arith, end, test) in
    let few = c.if-len.false in
    let long = c.len.ensures.value in
    let short = c.len-2.ensures.value in
    let within : n < length ys = omega (arith, inside, few, long, short) in
    let names : c.name.result.now ≡ c.name-in-loop-number.result.now = (slice_eq-Decides Decides-eqb c.name.result.now c.name-in-loop-number.result.now _ refl).0 (not_false _ (sym c.ne.ensures ∙ c.if-ne.false)) in
    names_more xs ys n inside within c.loop-number.invariant (sym c.name.ensures ∙ names ∙ c.name-in-loop-number.ensures)

pub returns : goal.returns
returns c =
    let at : c.loop-number.number ≡ length c.args.first.now = (let n = c.len-number-end.ensures.value in let l = c.loop-number-test.false in let e = c.loop-number.auto.number-end in omega (arith, n, l, e)) in
    ((λ t. names_whole c.args.first.now c.args.self.now c.loop-number.number at c.loop-number.invariant), (λ b. refl))
