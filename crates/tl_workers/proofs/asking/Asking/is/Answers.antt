use Rattle.std.proofs.Common.{◌≡◌, ◌∙◌, sym, refl, Bool, true, false}
use Rattle.std.proofs.Common.{not}
use Rattle.std.proofs.lemmas.Bool.Decides.{Decides-eqb}
use Rattle.std.proofs.lemmas.Slice.Eq.{slice_eq-Decides}
use Rattle.tl_workers.proofs.Askings.{same_but_args}
use Rattle.tl_workers.proofs.asking.Asking.is.Goals as goal

not_false : (b : Bool) → not b ≡ false → b ≡ true
not_false true h = refl
not_false false h = sym h

pub returns : goal.returns
returns c =
    let test = not_false _ (sym c.ne.ensures ∙ c.if-ne.false) in
    let names = (slice_eq-Decides Decides-eqb c.as_str.result.now c.args.name.now _ refl).0 test in
    same_but_args c.args.self.now c.args.epoch c.args.call c.args.name.now c.args.args.now c.as_slice.result.now c.eq.result c.if-self-epoch.false c.if-self-call.false (sym c.as_str.ensures.same ∙ names) c.as_slice.ensures.value c.eq.ensures
