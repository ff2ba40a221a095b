use Rattle.std.proofs.Common.{rules, ◌≡◌, ◌∙◌, ap, refl, w64, to_z, of_z, arith}
use Rattle.sqlite_trees.specs.View.{IsClean}
use Rattle.tl_ledger.specs.News.{procedure_columns, call_columns, turn_columns, reply_columns}
use Rattle.tl_ledger.specs.declared.schema.TheConstants.{PROCEDURE, CALL, TURN, REPLY}
use Rattle.tl_compare.proofs.ReadLemmas.{rows_held, holds_again, between_same, quiet_then}
use Rattle.tl_compare.proofs.reading.read_epoch.Goals as goal

pub returns-clause-rows : goal.returns-clause-rows
returns-clause-rows g c = λ clean contents holds marked.
    let old = (g.S.Store.view c.args.store.now).trees in
    let clean5 : IsClean (g.S.Store.view c.read_between-3.new.store) = omega (arith, clean, c.read_between-4.ensures.quiet.clean) in
    let clean4 : IsClean (g.S.Store.view c.read_between-2.new.store) = omega (arith, clean5, c.read_between-3.ensures.quiet.clean) in
    let clean3 : IsClean (g.S.Store.view c.read_between.new.store) = omega (arith, clean4, c.read_between-2.ensures.quiet.clean) in
    let clean2 : IsClean (g.S.Store.view c.read_seal.new.store) = omega (arith, clean3, c.read_between.ensures.quiet.clean) in
    let clean1 : IsClean (g.S.Store.view c.read_seal_before.new.store) = omega (arith, clean2, c.read_seal.ensures.quiet.clean) in
    let same1 : (g.S.Store.view c.read_seal_before.new.store).trees ≡ old = ap (λ v. v.trees) ((c.in_ok-before.ensures.reads clean1).same) in
    let same2 : (g.S.Store.view c.read_seal.new.store).trees ≡ old = ap (λ v. v.trees) ((c.in_ok-own.ensures.reads clean2).same) ∙ same1 in
    let same3 : (g.S.Store.view c.read_between.new.store).trees ≡ old = ap (λ v. v.trees) ((c.in_ok-read_between.ensures.reads clean3).same) ∙ same2 in
    let same4 : (g.S.Store.view c.read_between-2.new.store).trees ≡ old = ap (λ v. v.trees) ((c.in_ok-read_between-2.ensures.reads clean4).same) ∙ same3 in
    let same5 : (g.S.Store.view c.read_between-3.new.store).trees ≡ old = ap (λ v. v.trees) ((c.in_ok-read_between-3.ensures.reads clean5).same) ∙ same4 in
    let own = c.in_ok-own.own in
    let before = c.in_ok-before.before in
    let procedures_end : to_z w64 (of_z w64 own.procedures) ≡ own.procedures = search rules in
    let calls_from : to_z w64 (of_z w64 before.calls) ≡ before.calls = search rules in
    let calls_end : to_z w64 (of_z w64 own.calls) ≡ own.calls = search rules in
    let turns_from : to_z w64 (of_z w64 before.turns) ≡ before.turns = search rules in
    let turns_end : to_z w64 (of_z w64 own.turns) ≡ own.turns = search rules in
    let replies_from : to_z w64 (of_z w64 before.replies) ≡ before.replies = search rules in
    let replies_end : to_z w64 (of_z w64 own.replies) ≡ own.replies = search rules in record {
      number = refl;
      first = before;
      last = own;
      before = c.in_ok-before.ensures.seal clean1 contents holds marked.seals;
      seal = c.in_ok-own.ensures.seal clean2 contents (holds_again contents _ old holds same1) marked.seals;
      procedures = between_same procedure_columns (contents PROCEDURE) _ _ _ _ _ (c.in_ok-read_between.ensures.rows clean3 (contents PROCEDURE) (rows_held contents _ old PROCEDURE (omega arith) holds same2) marked.procedures) refl procedures_end;
      calls = between_same call_columns (contents CALL) _ _ _ _ _ (c.in_ok-read_between-2.ensures.rows clean4 (contents CALL) (rows_held contents _ old CALL (omega arith) holds same3) marked.calls) calls_from calls_end;
      turns = between_same turn_columns (contents TURN) _ _ _ _ _ (c.in_ok-read_between-3.ensures.rows clean5 (contents TURN) (rows_held contents _ old TURN (omega arith) holds same4) marked.turns) turns_from turns_end;
      replies = between_same reply_columns (contents REPLY) _ _ _ _ _ (c.in_ok-read_between-4.ensures.rows clean (contents REPLY) (rows_held contents _ old REPLY (omega arith) holds same5) marked.replies) replies_from replies_end;
    }

pub returns-in_err-read_between-2-clause-quiet : goal.returns-in_err-read_between-2-clause-quiet
returns-in_err-read_between-2-clause-quiet g c =
    quiet_then (quiet_then (quiet_then c.read_seal_before.ensures.quiet c.read_seal.ensures.quiet) c.read_between.ensures.quiet) c.read_between-2.ensures.quiet

pub returns-in_err-read_between-3-clause-quiet : goal.returns-in_err-read_between-3-clause-quiet
returns-in_err-read_between-3-clause-quiet g c =
    quiet_then (quiet_then (quiet_then (quiet_then c.read_seal_before.ensures.quiet c.read_seal.ensures.quiet) c.read_between.ensures.quiet) c.read_between-2.ensures.quiet)
    c.read_between-3.ensures.quiet

pub returns-in_err-read_between-4-clause-quiet : goal.returns-in_err-read_between-4-clause-quiet
returns-in_err-read_between-4-clause-quiet g c =
    quiet_then (quiet_then (quiet_then (quiet_then (quiet_then c.read_seal_before.ensures.quiet c.read_seal.ensures.quiet) c.read_between.ensures.quiet) c.read_between-2.ensures.quiet)
    c.read_between-3.ensures.quiet) c.read_between-4.ensures.quiet

pub returns-clause-quiet : goal.returns-clause-quiet
returns-clause-quiet g c =
    quiet_then (quiet_then (quiet_then (quiet_then (quiet_then c.read_seal_before.ensures.quiet c.read_seal.ensures.quiet) c.read_between.ensures.quiet) c.read_between-2.ensures.quiet)
    c.read_between-3.ensures.quiet) c.read_between-4.ensures.quiet
