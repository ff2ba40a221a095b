use Rattle.std.proofs.Common.{◌≡◌, ◌∙◌, ap, refl, arith}
use Rattle.sqlite_trees.specs.View.{IsClean}
use Rattle.tl_ledger.specs.declared.schema.TheConstants.{PROCEDURE, CALL, TURN, REPLY, SEAL}
use Rattle.tl_follow.proofs.FollowLemmas.{some_read}
use Rattle.tl_follow.proofs.behind.read_others.Goals as goal

pub returns-clause-rows : goal.returns-clause-rows
returns-clause-rows g c = λ clean contents holds many of_nodes.
    let from = c.args.from.now in
    let to = c.args.to in
    let old = (g.S.Store.view c.args.store.now).trees in
    let clean4 : IsClean (g.S.Store.view c.read_some-4.new.store) = omega (arith, clean, c.read_some-5.ensures.quiet.clean) in
    let clean3 : IsClean (g.S.Store.view c.read_some-3.new.store) = omega (arith, clean4, c.read_some-4.ensures.quiet.clean) in
    let clean2 : IsClean (g.S.Store.view c.read_some-2.new.store) = omega (arith, clean3, c.read_some-3.ensures.quiet.clean) in
    let clean1 : IsClean (g.S.Store.view c.read_some.new.store) = omega (arith, clean2, c.read_some-2.ensures.quiet.clean) in
    let same1 : (g.S.Store.view c.read_some.new.store).trees ≡ old = ap (λ v. v.trees) ((c.in_ok-read_some.ensures.reads clean1).same) in
    let same2 : (g.S.Store.view c.read_some-2.new.store).trees ≡ old = ap (λ v. v.trees) ((c.in_ok-read_some-2.ensures.reads clean2).same) ∙ same1 in
    let same3 : (g.S.Store.view c.read_some-3.new.store).trees ≡ old = ap (λ v. v.trees) ((c.in_ok-read_some-3.ensures.reads clean3).same) ∙ same2 in
    let same4 : (g.S.Store.view c.read_some-4.new.store).trees ≡ old = ap (λ v. v.trees) ((c.in_ok-read_some-4.ensures.reads clean4).same) ∙ same3 in record {
      nodes = of_nodes;
      procedures = some_read contents old old PROCEDURE from.procedures to.procedures _ _ (omega arith) holds refl c.in_ok-read_some.ensures.count (omega (arith, many.procedures, c.requires.order.procedures)) (c.in_ok-read_some.ensures.rows clean1);
      calls = some_read contents _ old CALL from.calls to.calls _ _ (omega arith) holds same1 c.in_ok-read_some-2.ensures.count (omega (arith, many.calls, c.requires.order.calls)) (c.in_ok-read_some-2.ensures.rows clean2);
      turns = some_read contents _ old TURN from.turns to.turns _ _ (omega arith) holds same2 c.in_ok-read_some-3.ensures.count (omega (arith, many.turns, c.requires.order.turns)) (c.in_ok-read_some-3.ensures.rows clean3);
      replies = some_read contents _ old REPLY from.replies to.replies _ _ (omega arith) holds same3 c.in_ok-read_some-4.ensures.count (omega (arith, many.replies, c.requires.order.replies)) (c.in_ok-read_some-4.ensures.rows clean4);
      seals = some_read contents _ old SEAL from.seals to.seals _ _ (omega arith) holds same4 c.in_ok-read_some-5.ensures.count (omega (arith, many.seals, c.requires.order.seals)) (c.in_ok-read_some-5.ensures.rows clean);
    }
