use Rattle.std.proofs.Common.{◌≡◌, get_or, take, map, ap, ◌∙◌, subst, sym, arith}
use Rattle.std.proofs.lemmas.List.{take_all}
use Rattle.std.proofs.lemmas.List.Elements.{All-more}
use Rattle.std.proofs.lemmas.Grind.{common_steps}
use Rattle.tl_core.specs.Cores.{CoreState}
use Rattle.tl_table.specs.Bounds.{IsBounded, AreBounded}
use Rattle.tl_table.specs.Epochs.{EpochValue, seen}
use Rattle.tl_table.specs.Chains.{calls_in, epoch_order, IsSerial}
use Rattle.tl_table.proofs.BoundedChains.{all_within}
use Rattle.tl_table.proofs.ChainOrders.{chain_serial}
use Rattle.tl_table.proofs.ReachedChains.{chain_reached}
use Rattle.tl_table.proofs.chain.conclude_all.Goals as goal

pub loop-closed-preserved : goal.loop-closed-preserved
loop-closed-preserved c =
    let chain = c.args.chain.now in
    let i = c.loop-closed.closed-index in
    let sound = c.lemma_is_sound.ensures in
    let own : IsBounded c.core.result.now.seen = record {
      obeys = λ k lt. sound.obeys k (omega arith);
      steps = λ k lt. sound.steps k (omega arith);
      locks = λ k lt. sound.locks k (omega arith);
      emits = λ k lt. sound.emits k (omega arith);
    } in
    let here : IsBounded (seen c.closed-item.result) = subst (λ (s : CoreState). IsBounded s.seen) c.core.ensures.same own in
    let there : IsBounded (seen (get_or chain i c.closed-item.result)) = subst (λ (e : EpochValue). IsBounded (seen e)) c.closed-item.is here in (
      grind (arith, common_steps),
      grind (arith, common_steps),
      grind (arith, common_steps),
      All-more (λ (e : EpochValue). IsBounded (seen e)) chain i c.closed-item.result c.loop-closed-test.true c.loop-closed.invariant.3 there,
    )

pub returns-clause-bounded : goal.returns-clause-bounded
returns-clause-bounded c = subst AreBounded (take_all c.loop-closed.closed-index c.args.chain.now c.loop-closed-test.false) c.loop-closed.invariant.3

pub returns-clause-within : goal.returns-clause-within
returns-clause-within c = all_within c.args.chain.now (subst AreBounded (take_all c.loop-closed.closed-index c.args.chain.now c.loop-closed-test.false) c.loop-closed.invariant.3)

pub returns-clause-reached : goal.returns-clause-reached
returns-clause-reached c = chain_reached c.args.chain.now c.requires

pub returns-clause-serial : goal.returns-clause-serial
returns-clause-serial c =
    let all : take c.loop-closed.closed-index c.args.chain.now ≡ c.args.chain.now = grind (arith, common_steps) in
    let orders : map calls_in c.loop-closed.orders.items ≡ map epoch_order c.args.chain.now = c.loop-closed.invariant.0 ∙ ap (map epoch_order) all in
    subst (IsSerial c.args.chain.now) (sym orders) (chain_serial c.args.chain.now c.requires)

pub returns-in_err-orders-clause-reached : goal.returns-in_err-orders-clause-reached
returns-in_err-orders-clause-reached c = chain_reached c.args.chain.now c.requires

pub returns-in_err-copy-clause-reached : goal.returns-in_err-copy-clause-reached
returns-in_err-copy-clause-reached c = chain_reached c.args.chain.now c.requires
