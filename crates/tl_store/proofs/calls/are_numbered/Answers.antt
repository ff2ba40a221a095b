use Rattle.std.proofs.Common.{rules, ◌≡◌, ◌∙◌, IsTrue, false, get_or, map, pos, sym, ap, arith}
use Rattle.std.proofs.lemmas.Bool.{both_ways}
use Rattle.std.proofs.lemmas.List.{get_or-map}
use Rattle.tl_ledger.specs.declared.rows.CallRow.{CallRow}
use Rattle.tl_store.proofs.CallLemmas.{numbered_more}
use Rattle.tl_store.proofs.calls.are_numbered.Goals as goal

pub loop-number-preserved : goal.loop-number-preserved
loop-number-preserved c =
    let placed : IsTrue c.is_at.result = search rules in
    numbered_more c.args.calls.now c.loop-number.number c.index-calls-number.result (omega arith) c.index-calls-number.is (c.is_at.ensures.same placed) c.loop-number.invariant

pub returns-then-not-is_at : goal.returns-then-not-is_at
returns-then-not-is_at c =
    let other : c.is_at.result ≡ false = search rules in
    let at : get_or (map (λ r. r.number) c.args.calls.now) c.loop-number.number (pos 0) ≡ c.index-calls-number.result.number =
    get_or-map (λ (r : CallRow). r.number) c.args.calls.now c.loop-number.number c.index-calls-number.result (pos 0) (omega arith) ∙ ap (λ (r : CallRow). r.number) (sym c.index-calls-number.is) in
    (λ no. absurd cc, λ numbered. absurd (both_ways c.is_at.result other (c.is_at.ensures.told (sym at ∙ numbered c.loop-number.number (omega arith)))))
