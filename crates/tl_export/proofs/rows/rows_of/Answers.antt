use Rattle.std.proofs.Common.{rules, ◌≡◌, ◌≤◌, ◌∙◌, length, drop, sym, ap, refl, arith}
use Rattle.std.proofs.lemmas.Result.{err_from_is_err_and}
use Rattle.sqlite_trees.specs.View.{IsClean}
use Rattle.tl_ledger.specs.declared.schema.TheConstants.{PROCEDURE, CALL, TURN, REPLY}
use Rattle.tl_export.specs.Counts.{all_rows, AreAtBeginning, AreAtEnd, AreInOrder}
use Rattle.tl_ledger.specs.News.{procedure_columns, call_columns, turn_columns, reply_columns}
use Rattle.tl_export.proofs.ReadLemmas.{some_read, rows_behind}
use Rattle.tl_export.proofs.rows.rows_of.Goals as goal

pub returns-clause-rows : goal.returns-clause-rows
returns-clause-rows g c = λ clean contents holds plan.
    let old = (g.S.Store.view c.args.store.now).trees in
    let p = c.args.plan.now in
    let clean3 : IsClean (g.S.Store.view c.read_some-3.new.store) = omega (arith, clean, c.read_some-4.ensures.quiet.clean) in
    let clean2 : IsClean (g.S.Store.view c.read_some-2.new.store) = omega (arith, clean3, c.read_some-3.ensures.quiet.clean) in
    let clean1 : IsClean (g.S.Store.view c.read_some.new.store) = omega (arith, clean2, c.read_some-2.ensures.quiet.clean) in
    let same1 : (g.S.Store.view c.read_some.new.store).trees ≡ old = ap (λ v. v.trees) ((c.in_ok-read_some.ensures.reads clean1).same) in
    let same2 : (g.S.Store.view c.read_some-2.new.store).trees ≡ old = ap (λ v. v.trees) ((c.in_ok-read_some-2.ensures.reads clean2).same) ∙ same1 in
    let same3 : (g.S.Store.view c.read_some-3.new.store).trees ≡ old = ap (λ v. v.trees) ((c.in_ok-read_some-3.ensures.reads clean3).same) ∙ same2 in
    let first = c.in-Some.first in
    let last = c.in-Some.last in
    let beginning : AreAtBeginning p.seals.items p.marks c.args.epoch first = search rules in
    let end : AreAtEnd p.seals.items p.marks c.args.epoch last = search rules in
    let order : AreInOrder first last = search rules in
    let inside : AreInOrder last (all_rows p.marks) = search rules in record {
      number = refl;
      first = first;
      last = last;
      beginning = beginning;
      end = end;
      nodes = search rules;
      procedures = some_read contents old old PROCEDURE 0 last.procedures _ _ (omega arith) holds refl (omega arith) c.in_ok-read_some.ensures.count (c.in_ok-read_some.ensures.rows clean1);
      calls = some_read contents (g.S.Store.view c.read_some.new.store).trees old CALL first.calls last.calls _ _ (omega arith) holds same1 (omega (arith, order.calls, inside.calls, plan.marked.calls)) c.in_ok-read_some-2.ensures.count (c.in_ok-read_some-2.ensures.rows clean2);
      turns = some_read contents (g.S.Store.view c.read_some-2.new.store).trees old TURN first.turns last.turns _ _ (omega arith) holds same2 (omega (arith, order.turns, inside.turns, plan.marked.turns)) c.in_ok-read_some-3.ensures.count (c.in_ok-read_some-3.ensures.rows clean3);
      replies = some_read contents (g.S.Store.view c.read_some-3.new.store).trees old REPLY first.replies last.replies _ _ (omega arith) holds same3 (omega (arith, order.replies, inside.replies, plan.marked.replies)) c.in_ok-read_some-4.ensures.count (c.in_ok-read_some-4.ensures.rows clean);
    }

pub returns-in_err-read_some-clause-again : goal.returns-in_err-read_some-clause-again
returns-in_err-read_some-clause-again g c =
    let p = err_from_is_err_and c.from_residual-in_err-read_some.result c.from_residual-in_err-read_some.ensures.1 in
    rw p.1 (λ clean contents holds plan can counts.
    let old = (g.S.Store.view c.args.store.now).trees in
    let last = c.in-Some.last in
    let inside : AreInOrder last (all_rows c.args.plan.now.marks) = search rules in
    let few : last.procedures ≤ length (contents PROCEDURE) = omega (arith, inside.procedures, plan.marked.procedures) in
    p.2 (c.in_err-read_some.ensures.again clean (contents PROCEDURE) (holds.numbered PROCEDURE (omega arith)) few (can.readable.few PROCEDURE (omega arith)) (drop 0 can.readable.procedures) (λ at d less. tt)
    (rows_behind procedure_columns (contents PROCEDURE) 0 can.readable.procedures (sym can.readable.procedures_are))))

pub returns-in_err-read_some-2-clause-again : goal.returns-in_err-read_some-2-clause-again
returns-in_err-read_some-2-clause-again g c =
    let p = err_from_is_err_and c.from_residual-in_err-read_some-2.result c.from_residual-in_err-read_some-2.ensures.1 in
    rw p.1 (λ clean contents holds plan can counts.
    let old = (g.S.Store.view c.args.store.now).trees in
    let first = c.in-Some.first in
    let last = c.in-Some.last in
    let inside : AreInOrder last (all_rows c.args.plan.now.marks) = search rules in
    let clean1 : IsClean (g.S.Store.view c.read_some.new.store) = omega (arith, clean, c.read_some-2.ensures.quiet.clean) in
    let same1 : (g.S.Store.view c.read_some.new.store).trees ≡ old = ap (λ v. v.trees) ((c.in_ok-read_some.ensures.reads clean1).same) in
    let few : last.calls ≤ length (contents CALL) = omega (arith, inside.calls, plan.marked.calls) in
    p.2 (c.in_err-read_some-2.ensures.again clean (contents CALL) (ap (λ f. f CALL) same1 ∙ holds.numbered CALL (omega arith)) few (can.readable.few CALL (omega arith)) (drop first.calls can.entries.calls.entries) (λ at d less. tt)
    (rows_behind call_columns (contents CALL) first.calls can.entries.calls.entries (can.entries.calls.are))))

pub returns-in_err-read_some-3-clause-again : goal.returns-in_err-read_some-3-clause-again
returns-in_err-read_some-3-clause-again g c =
    let p = err_from_is_err_and c.from_residual-in_err-read_some-3.result c.from_residual-in_err-read_some-3.ensures.1 in
    rw p.1 (λ clean contents holds plan can counts.
    let old = (g.S.Store.view c.args.store.now).trees in
    let first = c.in-Some.first in
    let last = c.in-Some.last in
    let inside : AreInOrder last (all_rows c.args.plan.now.marks) = search rules in
    let clean2 : IsClean (g.S.Store.view c.read_some-2.new.store) = omega (arith, clean, c.read_some-3.ensures.quiet.clean) in
    let clean1 : IsClean (g.S.Store.view c.read_some.new.store) = omega (arith, clean2, c.read_some-2.ensures.quiet.clean) in
    let same1 : (g.S.Store.view c.read_some.new.store).trees ≡ old = ap (λ v. v.trees) ((c.in_ok-read_some.ensures.reads clean1).same) in
    let same2 : (g.S.Store.view c.read_some-2.new.store).trees ≡ old = ap (λ v. v.trees) ((c.in_ok-read_some-2.ensures.reads clean2).same) ∙ same1 in
    let few : last.turns ≤ length (contents TURN) = omega (arith, inside.turns, plan.marked.turns) in
    p.2 (c.in_err-read_some-3.ensures.again clean (contents TURN) (ap (λ f. f TURN) same2 ∙ holds.numbered TURN (omega arith)) few (can.readable.few TURN (omega arith)) (drop first.turns can.entries.turns.entries) (λ at d less. tt)
    (rows_behind turn_columns (contents TURN) first.turns can.entries.turns.entries (can.entries.turns.are))))

pub returns-in_err-read_some-4-clause-again : goal.returns-in_err-read_some-4-clause-again
returns-in_err-read_some-4-clause-again g c =
    let p = err_from_is_err_and c.from_residual-in_err-read_some-4.result c.from_residual-in_err-read_some-4.ensures.1 in
    rw p.1 (λ clean contents holds plan can counts.
    let old = (g.S.Store.view c.args.store.now).trees in
    let first = c.in-Some.first in
    let last = c.in-Some.last in
    let inside : AreInOrder last (all_rows c.args.plan.now.marks) = search rules in
    let clean3 : IsClean (g.S.Store.view c.read_some-3.new.store) = omega (arith, clean, c.read_some-4.ensures.quiet.clean) in
    let clean2 : IsClean (g.S.Store.view c.read_some-2.new.store) = omega (arith, clean3, c.read_some-3.ensures.quiet.clean) in
    let clean1 : IsClean (g.S.Store.view c.read_some.new.store) = omega (arith, clean2, c.read_some-2.ensures.quiet.clean) in
    let same1 : (g.S.Store.view c.read_some.new.store).trees ≡ old = ap (λ v. v.trees) ((c.in_ok-read_some.ensures.reads clean1).same) in
    let same2 : (g.S.Store.view c.read_some-2.new.store).trees ≡ old = ap (λ v. v.trees) ((c.in_ok-read_some-2.ensures.reads clean2).same) ∙ same1 in
    let same3 : (g.S.Store.view c.read_some-3.new.store).trees ≡ old = ap (λ v. v.trees) ((c.in_ok-read_some-3.ensures.reads clean3).same) ∙ same2 in
    let few : last.replies ≤ length (contents REPLY) = omega (arith, inside.replies, plan.marked.replies) in
    p.2 (c.in_err-read_some-4.ensures.again clean (contents REPLY) (ap (λ f. f REPLY) same3 ∙ holds.numbered REPLY (omega arith)) few (can.readable.few REPLY (omega arith)) (drop first.replies can.entries.replies.entries) (λ at d less. tt)
    (rows_behind reply_columns (contents REPLY) first.replies can.entries.replies.entries (can.entries.replies.are))))
