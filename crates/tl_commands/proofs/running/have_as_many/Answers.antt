use Rattle.std.proofs.Common.{◌≡◌, length, refl, sym, ap, ◌∙◌, subst}
use Rattle.std.specs.List.{All}
use Rattle.std.proofs.lemmas.List.{take_all}
use Rattle.std.proofs.lemmas.List.Elements.{All-more}
use Rattle.tl_core.specs.Cores.{CoreState}
use Rattle.tl_table.specs.Epochs.{EpochValue, seen}
use Rattle.tl_commands.proofs.running.have_as_many.Goals as goal

pub loop-closed-preserved : goal.loop-closed-preserved
loop-closed-preserved c =
    let e = c.closed-item.result in
    let same : c.procedures.result.now ≡ (seen e).procedures = c.procedures.ensures ∙ ap (λ (k : CoreState). k.seen.procedures) c.core.ensures.same in
    let one : length (seen e).procedures ≡ c.args.count = ap length (sym same) ∙ sym c.len.ensures.value ∙ c.if-len-count.false in
    All-more (λ (e : EpochValue). length (seen e).procedures ≡ c.args.count) c.args.chain.now c.loop-closed.closed-index e c.loop-closed-test.true c.loop-closed.invariant
    (subst (λ (e : EpochValue). length (seen e).procedures ≡ c.args.count) c.closed-item.is one)

pub returns : goal.returns
returns c = (
  (λ _. subst (All (λ (e : EpochValue). length (seen e).procedures ≡ c.args.count)) (take_all c.loop-closed.closed-index c.args.chain.now c.loop-closed-test.false) c.loop-closed.invariant),
  λ _. refl,
)
