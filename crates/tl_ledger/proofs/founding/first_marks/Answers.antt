use Rattle.std.proofs.Common.{rules, ◌≡◌, ◌∙◌, length}
use Rattle.tl_ledger.proofs.CommitLemmas.{marked_first}
use Rattle.tl_ledger.proofs.founding.first_marks.Goals as goal

pub returns : goal.returns
returns g contents empty =
    let f = g.args.first.now in
    let nodes : length f.nodes.items ≡ g.len.result = search rules in
    let procedures : length f.procedures.items ≡ g.len-2.result = search rules in
    let marked = marked_first contents f empty g.requires in record {
      nodes = marked.nodes ∙ nodes;
      records = marked.records ∙ nodes;
      procedures = marked.procedures ∙ procedures;
      calls = marked.calls;
      turns = marked.turns;
      replies = marked.replies;
      seals = marked.seals;
    }
