use Rattle.std.proofs.Common.{rules, ◌≡◌, ◌+◌, length, map, sym, subst, arith}
use Rattle.sqlite_trees.specs.View.{IsClean}
use Rattle.tl_ledger.specs.declared.schema.TheConstants.{NODE}
use Rattle.tl_ledger.specs.News.{node_columns}
use Rattle.tl_follow.specs.Positions.{between}
use Rattle.tl_follow.proofs.FollowLemmas.{fewer}
use Rattle.tl_follow.proofs.behind.next_position.Goals as goal

pub returns-clause-nodes : goal.returns-clause-nodes
returns-clause-nodes g c = λ clean contents holds marked.
    let from = c.args.from.now.nodes in
    let some = c.known_before-nodes.result.items in
    let before : IsClean (g.S.Store.view c.nodes_behind.new.store) = omega (arith, clean, c.seal_behind.ensures.quiet.clean) in
    let all = c.in_ok-all.ensures.nodes before contents holds marked in
    let to_is : c.in_ok-to.to.nodes ≡ from + length some = search rules in
    subst (λ n. map node_columns some ≡ between from n (contents NODE)) (sym to_is)
    (fewer node_columns c.in_ok-all.all.items some (contents NODE) from c.args.stored.now.nodes all c.in_ok-all.ensures.count c.known_before-nodes.ensures.first c.known_before-nodes.ensures.within)
