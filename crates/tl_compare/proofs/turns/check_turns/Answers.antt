use Rattle.std.proofs.Common.{rules, ◌≡◌, ◌∙◌, IsTrue, false, map, reverse, sym, ap}
use Rattle.std.proofs.lemmas.Bool.{both_ways}
use Rattle.indexmap.proofs.ReorderLemmas.{map-reverse}
use Rattle.tl_tree_locking.specs.History.{caller}
use Rattle.tl_rows.specs.Rows.{turn_bytes}
use Rattle.tl_compare.proofs.RowLemmas.{same_callers}
use Rattle.tl_compare.proofs.turns.check_turns.Goals as goal

pub returns-then-are_same_calls-clause-same : goal.returns-then-are_same_calls-clause-same
returns-then-are_same_calls-clause-same c =
    let past = c.args.core.now.seen.past in
    let yes : IsTrue c.are_same_calls.result = search rules in
    let callers : c.in_ok-callers.callers.items ≡ map caller (reverse past) = c.in_ok-callers.ensures ∙ ap (map caller) (c.events.ensures.events ∙ ap reverse c.history.ensures.past) in
    let same : c.in_ok-turns.turns.items ≡ c.in_ok-callers.callers.items = sym c.as_slice.ensures.value ∙ c.are_same_calls.ensures.0 yes ∙ c.as_slice-2.ensures.value in record {
      epoch_is = c.in_ok-turns.ensures.epoch;
      turns = c.in_ok-turns.ensures.turns ∙ ap turn_bytes (same ∙ callers ∙ map-reverse caller past);
    }

pub returns-clause-again : goal.returns-clause-again
returns-clause-again c = λ are whole.
    let v = c.args.core.now.seen in
    let other : c.are_same_calls.result ≡ false = search rules in
    let callers : c.in_ok-callers.callers.items ≡ map caller (reverse v.past) = c.in_ok-callers.ensures ∙ ap (map caller) (c.events.ensures.events ∙ ap reverse c.history.ensures.past) in
    let turns : c.in_ok-turns.turns.items ≡ map caller (reverse v.past) =
    same_callers v c.args.epoch c.args.rows.now c.in_ok-turns.turns.items c.lemma_is_reached.ensures c.in_ok-turns.ensures.small c.in_ok-turns.ensures.turns are in
    absurd (both_ways c.are_same_calls.result other (c.are_same_calls.ensures.1 (c.as_slice.ensures.value ∙ turns ∙ sym callers ∙ sym c.as_slice-2.ensures.value)))
