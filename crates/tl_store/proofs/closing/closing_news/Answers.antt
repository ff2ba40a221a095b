use Rattle.std.proofs.Common.{◌≡◌, ◌∙◌, ◌/◌, ◌∷◌, ◌++◌, [], ap, subst, length, map, drop, reverse, arith}
use Rattle.std.specs.Vec.{vec_len}
use Rattle.indexmap.proofs.ReorderLemmas.{map-reverse}
use Rattle.tl_tree_locking.specs.History.{caller, records_now}
use Rattle.tl_rows.specs.Rows.{turn_bytes, all_turn_bytes}
use Rattle.tl_rows.specs.Changes.{Leads}
use Rattle.tl_store.specs.Closing.{IsSealOf}
use Rattle.tl_store.proofs.ClosingLemmas.{behind}
use Rattle.tl_store.proofs.closing.closing_news.Goals as goal

pub returns-clause-closing : goal.returns-clause-closing
returns-clause-closing c =
    let s = c.args.stored.now in
    let v = c.args.core.now.seen in
    let turns = c.in_ok-turns.turns.items in
    let replies = c.in_ok-replies.replies.items in
    let changes = c.in_ok-records.records.items in
    let seal = c.in-Some-seal_of.seal in
    let many_turns : vec_len c.in_ok-turns.turns ≡ length turns = omega (arith, c.in_ok-turns.turns.ok.0) in
    let many_replies : vec_len c.in_ok-replies.replies ≡ length replies = omega (arith, c.in_ok-replies.replies.ok.0) in
    let first = c.in-Some.bytes / 2 in
    let bytes : c.in-Some.bytes ≡ length (all_turn_bytes s.turns.items) = c.in-Some.ensures ∙ ap (λ rows. length (all_turn_bytes rows)) c.as_slice.ensures.value in
    let events : c.events-events.result.now ≡ reverse v.past = c.events-events.ensures.events ∙ ap reverse c.history.ensures.past in
    let late : all_turn_bytes turns ≡ turn_bytes (map caller (drop first (reverse v.past))) = c.in_ok-turns.ensures.turns ∙ ap (λ es. turn_bytes (map caller (drop first es))) events in
    let before : c.records.result.now ≡ v.opening = c.records.ensures.records ∙ ap (λ t. t.records) c.opening.ensures in
    let now : c.records-2.result.now ≡ records_now v.past v.opening = c.records-2.ensures.records ∙ ap (λ t. t.records) c.tree.ensures in record {
      nodes = c.new.ensures.items;
      procedures = c.new-2.ensures.items;
      calls = c.new-3.ensures.items;
      epoch = c.in_ok-turns.ensures.epoch;
      turns = behind v.past c.requires.turns c.requires.later (all_turn_bytes s.turns.items) (all_turn_bytes turns) first c.requires.turns_are c.requires.past (map-reverse caller v.past) (ap (λ n. n / 2) bytes) late;
      replies = c.in_ok-replies.ensures.replies;
      records = subst (λ b. Leads b (records_now v.past v.opening) changes) before (subst (λ n. Leads c.records.result.now n changes) now c.in_ok-records.ensures);
      seal = seal;
      seals = c.in_ok-push.ensures.items ∙ ap (λ l. l ++ seal ∷ []) c.new-seals.ensures.items;
      counts = subst (λ n. IsSealOf s.marks (length turns) n seal) (c.len-2.ensures ∙ many_replies) (subst (λ n. IsSealOf s.marks n c.len-2.result seal) (c.len.ensures ∙ many_turns) c.in-Some-seal_of.ensures.seal);
    }
