use mir.Val.{to_z, of_z}
use Rattle.std.proofs.Common.{rules, ◌≡◌, ◌∙◌, IsTrue, false, pos, w64, refl, sym, arith}
use Rattle.std.proofs.lemmas.Bool.{both_ways}
use Rattle.tl_store.proofs.ReplyLemmas.{more_items, at_item}
use Rattle.tl_store.proofs.turns.are_of_epoch.Goals as goal

pub loop-row-preserved : goal.loop-row-preserved
loop-row-preserved c =
    let yes : IsTrue c.is_epoch.result = search rules in
    let same : to_z w64 (of_z w64 c.row-item.result.epoch) ≡ c.row-item.result.epoch = search rules in
    more_items (λ r. r.epoch ≡ pos c.args.epoch) c.args.rows.now c.loop-row.row-index c.row-item.result (omega arith) c.row-item.is (sym same ∙ c.is_epoch.ensures.same yes) c.loop-row.invariant

pub returns-then-not-is_epoch : goal.returns-then-not-is_epoch
returns-then-not-is_epoch c =
    let other : c.is_epoch.result ≡ false = search rules in
    let same : to_z w64 (of_z w64 c.row-item.result.epoch) ≡ c.row-item.result.epoch = search rules in
    (λ no. absurd cc, λ all. absurd (both_ways c.is_epoch.result other (c.is_epoch.ensures.told (same ∙ at_item (λ r. r.epoch ≡ pos c.args.epoch) c.args.rows.now c.loop-row.row-index c.row-item.result (omega arith) c.row-item.is all))))

pub returns : goal.returns
returns c = (λ yes k d less. c.loop-row.invariant k d (omega arith), λ all. refl)
