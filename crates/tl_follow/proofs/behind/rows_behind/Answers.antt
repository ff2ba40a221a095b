use Rattle.std.proofs.Common.{sym, subst, arith}
use Rattle.std.proofs.lemmas.Result.{IfOk-weaker}
use Rattle.sqlite_trees.specs.View.{IsClean}
use Rattle.tl_follow.specs.Positions.{IsNext}
use Rattle.tl_follow.proofs.FollowLemmas.{holds_then}
use Rattle.tl_follow.proofs.behind.rows_behind.Goals as goal

pub returns-clause-next : goal.returns-clause-next
returns-clause-next g c =
    IfOk-weaker c.read_others.result _ _
    (λ r to_is clean contents holds marked.
    let before : IsClean (g.S.Store.view c.next_position.new.store) = omega (arith, clean, c.read_others.ensures.quiet.clean) in
    subst (λ p. IsNext contents c.args.stored.now c.args.from.now p) (sym to_is) (c.in_ok-to.ensures.next before contents holds marked))
    c.read_others.ensures.to

pub returns-clause-rows : goal.returns-clause-rows
returns-clause-rows g c =
    IfOk-weaker c.read_others.result _ _
    (λ r rows clean contents holds marked.
    let before : IsClean (g.S.Store.view c.next_position.new.store) = omega (arith, clean, c.read_others.ensures.quiet.clean) in
    let order = c.in_ok-to.ensures.order.1 in
    let same = (c.in_ok-to.ensures.reads before).same in
    rows clean contents (holds_then contents (g.S.Store.view c.args.store.now) (g.S.Store.view c.next_position.new.store) holds same)
    (record {
      nodes = omega (arith, marked.nodes, order.nodes);
      procedures = omega (arith, marked.procedures, order.procedures);
      calls = omega (arith, marked.calls, order.calls);
      turns = omega (arith, marked.turns, order.turns);
      replies = omega (arith, marked.replies, order.replies);
      seals = omega (arith, marked.seals, order.seals);
    })
    (c.in_ok-to.ensures.nodes before contents holds marked))
    c.read_others.ensures.rows
