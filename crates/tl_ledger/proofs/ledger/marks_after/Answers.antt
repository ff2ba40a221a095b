use Rattle.std.proofs.Common.{rules, ◌≡◌, ◌∙◌, ◌+◌, length, ap}
use Rattle.tl_ledger.proofs.CommitLemmas.{marked_after}
use Rattle.tl_ledger.proofs.ledger.marks_after.Goals as goal

pub returns : goal.returns
returns g k marked =
    let m = g.args.marks.now in
    let n = g.args.news.now in
    let nodes : length n.nodes.items ≡ g.len.result = search rules in
    let procedures : length n.procedures.items ≡ g.len-2.result = search rules in
    let calls : length n.calls.items ≡ g.len-3.result = search rules in
    let turns : length n.turns.items ≡ g.len-4.result = search rules in
    let replies : length n.replies.items ≡ g.len-5.result = search rules in
    let seals : length n.seals.items ≡ g.len-6.result = search rules in
    let after = marked_after k n m marked in record {
      nodes = after.nodes ∙ ap (λ x. m.nodes + x) nodes;
      records = after.records ∙ ap (λ x. m.nodes + x) nodes;
      procedures = after.procedures ∙ ap (λ x. m.procedures + x) procedures;
      calls = after.calls ∙ ap (λ x. m.calls + x) calls;
      turns = after.turns ∙ ap (λ x. m.turns + x) turns;
      replies = after.replies ∙ ap (λ x. m.replies + x) replies;
      seals = after.seals ∙ ap (λ x. m.seals + x) seals;
    }
