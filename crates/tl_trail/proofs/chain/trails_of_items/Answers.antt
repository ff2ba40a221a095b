use Rattle.std.proofs.Common.{◌+◌, get_or, map, take, sym, ap, ◌∙◌, subst, arith}
use Rattle.std.proofs.lemmas.Grind.{common_steps}
use Rattle.std.proofs.lemmas.List.{take_all}
use Rattle.serde_json.specs.View.{view}
use Rattle.tl_trail.specs.Reading.{form_of_data, IsFound, IsFaultFound}
use Rattle.tl_trail.specs.Chains.{AreEach}
use Rattle.tl_trail.proofs.ChainTokenLemmas.{each_more, item_wrong, list_view}
use Rattle.tl_trail.proofs.chain.trails_of_items.Goals as goal

pub loop-item-preserved : goal.loop-item-preserved
loop-item-preserved c =
    let vs = c.args.items.now in
    let i = c.loop-item.item-index in
    let v = c.item-item.result in
    let t = c.in-Ok.trail in
    let found : IsFound c.args.limit (form_of_data (view (get_or vs i v))) t = subst (λ x. IsFound c.args.limit (form_of_data (view x)) t) c.item-item.is c.in-Ok.ensures.ok in (
      subst (AreEach c.args.limit (map view (take (i + 1) vs))) (sym c.push_reserved.ensures.items) (each_more c.args.limit vs i v c.loop-item.trails.items t (omega arith) c.loop-item.invariant.0 found),
      grind (arith, common_steps),
      grind (arith, common_steps),
    )

pub returns-clause-ok : goal.returns-clause-ok
returns-clause-ok c =
    let vs = c.args.items.now in
    subst (λ l. AreEach c.args.limit l c.loop-item.trails.items) (ap (map view) (take_all c.loop-item.item-index vs (omega arith)) ∙ sym (list_view vs)) c.loop-item.invariant.0

pub returns-in-Err-clause-fault : goal.returns-in-Err-clause-fault
returns-in-Err-clause-fault c ne =
    let vs = c.args.items.now in
    let i = c.loop-item.item-index in
    let v = c.item-item.result in
    let e = c.in-Err.fault in
    let wrong : IsFaultFound c.args.limit (form_of_data (view (get_or vs i v))) e = subst (λ x. IsFaultFound c.args.limit (form_of_data (view x)) e) c.item-item.is (c.in-Err.ensures.fault ne) in
    item_wrong c.args.limit vs i v c.loop-item.trails.items e (omega arith) c.loop-item.invariant.0 wrong
