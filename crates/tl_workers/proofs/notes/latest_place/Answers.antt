use Rattle.std.proofs.Common.{◌∙◌, sym, ap, refl}
use Rattle.std.specs.Prelude.{Some}
use Rattle.std.proofs.lemmas.Bool.Decides.{Decides-eqb}
use Rattle.std.proofs.lemmas.Option.{slice_get_read}
use Rattle.std.proofs.lemmas.Slice.Eq.{slice_eq-Decides}
use Rattle.tl_workers.proofs.notes.latest_place.Goals as goal

pub returns-then-eq : goal.returns-then-eq
returns-then-eq c =
    let names = (slice_eq-Decides Decides-eqb c.as_str.result.now c.as_str-in-loop-i.result.now _ refl).0 (sym c.eq.ensures ∙ c.if-eq.true) in
    slice_get_read c.args.names.now _ c.loop-i.i c.index-names-i.result refl c.loop-i-test.true c.index-names-i.is ∙ ap Some (sym c.as_str.ensures.same ∙ names ∙ c.as_str-in-loop-i.ensures.same)
