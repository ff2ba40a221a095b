use Rattle.std.proofs.lemmas.Bool.{false≢true}
use Rattle.std.proofs.Common.{rules, ◌≡◌, ◌≤◌, ◌^◌, ◌∙◌, ap, sym, map, length, false, arith, IsTrue}
use Rattle.std.proofs.lemmas.List.{length-map}
use Rattle.std.proofs.lemmas.Result.{err_from_is_err_and}
use Rattle.sqlite_trees.specs.View.{IsClean}
use Rattle.tl_ledger.specs.declared.schema.TheConstants.{NODE, RECORD, PROCEDURE, CALL, TURN, REPLY}
use Rattle.tl_ledger.specs.Rows.{rows_from}
use Rattle.tl_ledger.specs.News.{node_columns, record_columns, procedure_columns}
use Rattle.tl_store.proofs.StoredLemmas.{all_read, holds_again, as_many}
use Rattle.tl_store.proofs.stored.read_stored.Goals as goal

pub returns-clause-stored : goal.returns-clause-stored
returns-clause-stored g c = λ clean contents holds.
    let old = (g.S.Store.view c.args.store.now).trees in
    let clean5 : IsClean (g.S.Store.view c.read_all-2.new.store) = omega (arith, clean, c.read_all-3.ensures.quiet.clean) in
    let clean4 : IsClean (g.S.Store.view c.read_all.new.store) = omega (arith, clean5, c.read_all-2.ensures.quiet.clean) in
    let clean3 : IsClean (g.S.Store.view c.read_behind.new.store) = omega (arith, clean4, c.read_all.ensures.quiet.clean) in
    let clean2 : IsClean (g.S.Store.view c.last_seal.new.store) = omega (arith, clean3, c.read_behind.ensures.quiet.clean) in
    let clean1 : IsClean (g.S.Store.view c.marks_of.new.store) = omega (arith, clean2, c.last_seal.ensures.quiet.clean) in
    let same1 : (g.S.Store.view c.marks_of.new.store).trees ≡ old = ap (λ v. v.trees) ((c.in_ok-marks.ensures.reads clean1).same) in
    let same2 : (g.S.Store.view c.last_seal.new.store).trees ≡ old = ap (λ v. v.trees) ((c.in_ok-sealed.ensures.reads clean2).same) ∙ same1 in
    let same3 : (g.S.Store.view c.read_behind.new.store).trees ≡ old = ap (λ v. v.trees) ((c.in_ok-behind.ensures.reads clean3).same) ∙ same2 in
    let same4 : (g.S.Store.view c.read_all.new.store).trees ≡ old = ap (λ v. v.trees) ((c.in_ok-read_all.ensures.reads clean4).same) ∙ same3 in
    let same5 : (g.S.Store.view c.read_all-2.new.store).trees ≡ old = ap (λ v. v.trees) ((c.in_ok-read_all-2.ensures.reads clean5).same) ∙ same4 in
    let marked = c.in_ok-marks.ensures.marks clean1 contents holds in
    let counted : IsTrue c.are_counted.result = search rules in
    let few_calls : c.in_ok-sealed.sealed.calls ≤ c.in_ok-marks.marks.calls = c.are_counted.ensures.calls counted in
    let few_turns : c.in_ok-sealed.sealed.turns ≤ c.in_ok-marks.marks.turns = c.are_counted.ensures.turns counted in
    let few_replies : c.in_ok-sealed.sealed.replies ≤ c.in_ok-marks.marks.replies = c.are_counted.ensures.replies counted in
    let behind = c.in_ok-behind.ensures.behind clean3 contents (holds_again contents (g.S.Store.view c.last_seal.new.store).trees old holds same2) in record {
      marked = marked;
      nodes = all_read contents (g.S.Store.view c.read_behind.new.store).trees old NODE _ (omega arith) holds same3 (c.in_ok-read_all.ensures.rows clean4);
      records = all_read contents (g.S.Store.view c.read_all.new.store).trees old RECORD _ (omega arith) holds same4 (c.in_ok-read_all-2.ensures.rows clean5);
      procedures = all_read contents (g.S.Store.view c.read_all-2.new.store).trees old PROCEDURE _ (omega arith) holds same5 (c.in_ok-read_all-3.ensures.rows clean);
      sealed = c.in_ok-sealed.sealed;
      is_last = c.in_ok-sealed.ensures.sealed clean2 contents (holds_again contents (g.S.Store.view c.marks_of.new.store).trees old holds same1);
      calls = behind.calls (as_many _ _ _ marked.calls few_calls);
      turns = behind.turns (as_many _ _ _ marked.turns few_turns);
      replies = behind.replies (as_many _ _ _ marked.replies few_replies);
    }

pub returns-in_err-marks-clause-again : goal.returns-in_err-marks-clause-again
returns-in_err-marks-clause-again g c =
    let p = err_from_is_err_and c.from_residual.result c.from_residual.ensures.1 in
    rw p.1 (λ clean contents holds readable.
    let old = (g.S.Store.view c.args.store.now).trees in
    p.2.disk (c.in_err-marks.ensures.again clean contents readable.marks holds readable.marked))

pub returns-in_err-sealed-clause-again : goal.returns-in_err-sealed-clause-again
returns-in_err-sealed-clause-again g c =
    let p = err_from_is_err_and c.from_residual-in_err-sealed.result c.from_residual-in_err-sealed.ensures.1 in
    rw (p.1, p.2) (λ clean contents holds readable.
    let old = (g.S.Store.view c.args.store.now).trees in
    let clean1 : IsClean (g.S.Store.view c.marks_of.new.store) = omega (arith, clean, c.last_seal.ensures.quiet.clean) in
    let same1 : (g.S.Store.view c.marks_of.new.store).trees ≡ old = ap (λ v. v.trees) ((c.in_ok-marks.ensures.reads clean1).same) in
    c.in_err-sealed.ensures.again clean contents readable.last.0 (holds_again contents (g.S.Store.view c.marks_of.new.store).trees old holds same1) readable.last.1)

pub returns-then-not-are_counted-clause-again : goal.returns-then-not-are_counted-clause-again
returns-then-not-are_counted-clause-again g c = λ clean2 contents holds readable.
    let old = (g.S.Store.view c.args.store.now).trees in
    let clean1 : IsClean (g.S.Store.view c.marks_of.new.store) = omega (arith, clean2, c.last_seal.ensures.quiet.clean) in
    let same1 : (g.S.Store.view c.marks_of.new.store).trees ≡ old = ap (λ v. v.trees) ((c.in_ok-marks.ensures.reads clean1).same) in
    let marked = c.in_ok-marks.ensures.marks clean1 contents holds in
    let last = c.in_ok-sealed.ensures.sealed clean2 contents (holds_again contents (g.S.Store.view c.marks_of.new.store).trees old holds same1) in
    let sealed = c.in_ok-sealed.sealed in
    let calls : sealed.calls ≤ c.in_ok-marks.marks.calls = omega (arith, marked.calls, (readable.calls sealed last).there) in
    let turns : sealed.turns ≤ c.in_ok-marks.marks.turns = omega (arith, marked.turns, (readable.turns sealed last).there) in
    let replies : sealed.replies ≤ c.in_ok-marks.marks.replies = omega (arith, marked.replies, (readable.replies sealed last).there) in
    let no : c.are_counted.result ≡ false = search rules in
    let yes : IsTrue c.are_counted.result = c.are_counted.ensures.again calls turns replies in
    false≢true (sym no ∙ yes)

pub returns-in_err-behind-clause-again : goal.returns-in_err-behind-clause-again
returns-in_err-behind-clause-again g c =
    let p = err_from_is_err_and c.from_residual-in_err-behind.result c.from_residual-in_err-behind.ensures.1 in
    rw (p.1, p.2) (λ clean contents holds readable.
    let old = (g.S.Store.view c.args.store.now).trees in
    let clean2 : IsClean (g.S.Store.view c.last_seal.new.store) = omega (arith, clean, c.read_behind.ensures.quiet.clean) in
    let clean1 : IsClean (g.S.Store.view c.marks_of.new.store) = omega (arith, clean2, c.last_seal.ensures.quiet.clean) in
    let same1 : (g.S.Store.view c.marks_of.new.store).trees ≡ old = ap (λ v. v.trees) ((c.in_ok-marks.ensures.reads clean1).same) in
    let same2 : (g.S.Store.view c.last_seal.new.store).trees ≡ old = ap (λ v. v.trees) ((c.in_ok-sealed.ensures.reads clean2).same) ∙ same1 in
    let last = c.in_ok-sealed.ensures.sealed clean2 contents (holds_again contents (g.S.Store.view c.marks_of.new.store).trees old holds same1) in
    let sealed = c.in_ok-sealed.sealed in
    c.in_err-behind.ensures.again clean contents (holds_again contents (g.S.Store.view c.last_seal.new.store).trees old holds same2) (readable.few CALL (omega arith)) (readable.few TURN (omega arith)) (readable.few REPLY (omega arith))
    (readable.calls sealed last) (readable.turns sealed last) (readable.replies sealed last))

pub returns-in_err-read_all-clause-again : goal.returns-in_err-read_all-clause-again
returns-in_err-read_all-clause-again g c =
    let p = err_from_is_err_and c.from_residual-in_err-read_all.result c.from_residual-in_err-read_all.ensures.1 in
    rw p.1 (λ clean contents holds readable.
    let old = (g.S.Store.view c.args.store.now).trees in
    let clean3 : IsClean (g.S.Store.view c.read_behind.new.store) = omega (arith, clean, c.read_all.ensures.quiet.clean) in
    let clean2 : IsClean (g.S.Store.view c.last_seal.new.store) = omega (arith, clean3, c.read_behind.ensures.quiet.clean) in
    let clean1 : IsClean (g.S.Store.view c.marks_of.new.store) = omega (arith, clean2, c.last_seal.ensures.quiet.clean) in
    let same1 : (g.S.Store.view c.marks_of.new.store).trees ≡ old = ap (λ v. v.trees) ((c.in_ok-marks.ensures.reads clean1).same) in
    let same2 : (g.S.Store.view c.last_seal.new.store).trees ≡ old = ap (λ v. v.trees) ((c.in_ok-sealed.ensures.reads clean2).same) ∙ same1 in
    let same3 : (g.S.Store.view c.read_behind.new.store).trees ≡ old = ap (λ v. v.trees) ((c.in_ok-behind.ensures.reads clean3).same) ∙ same2 in
    let rows : (g.S.Store.view c.read_behind.new.store).trees NODE ≡ rows_from 0 (map node_columns readable.nodes) = ap (λ trees. trees NODE) same3 ∙ holds.numbered NODE (omega arith) ∙ ap (rows_from 0) readable.nodes_are in
    let long : length readable.nodes ≤ 2 ^ 62 = (let all = ap length readable.nodes_are ∙ length-map readable.nodes node_columns in let few = readable.few NODE (omega arith) in omega (arith, all, few)) in
    p.2.disk (c.in_err-read_all.ensures.again clean readable.nodes (λ at d less. tt) long rows))

pub returns-in_err-read_all-2-clause-again : goal.returns-in_err-read_all-2-clause-again
returns-in_err-read_all-2-clause-again g c =
    let p = err_from_is_err_and c.from_residual-in_err-read_all-2.result c.from_residual-in_err-read_all-2.ensures.1 in
    rw p.1 (λ clean contents holds readable.
    let old = (g.S.Store.view c.args.store.now).trees in
    let clean4 : IsClean (g.S.Store.view c.read_all.new.store) = omega (arith, clean, c.read_all-2.ensures.quiet.clean) in
    let clean3 : IsClean (g.S.Store.view c.read_behind.new.store) = omega (arith, clean4, c.read_all.ensures.quiet.clean) in
    let clean2 : IsClean (g.S.Store.view c.last_seal.new.store) = omega (arith, clean3, c.read_behind.ensures.quiet.clean) in
    let clean1 : IsClean (g.S.Store.view c.marks_of.new.store) = omega (arith, clean2, c.last_seal.ensures.quiet.clean) in
    let same1 : (g.S.Store.view c.marks_of.new.store).trees ≡ old = ap (λ v. v.trees) ((c.in_ok-marks.ensures.reads clean1).same) in
    let same2 : (g.S.Store.view c.last_seal.new.store).trees ≡ old = ap (λ v. v.trees) ((c.in_ok-sealed.ensures.reads clean2).same) ∙ same1 in
    let same3 : (g.S.Store.view c.read_behind.new.store).trees ≡ old = ap (λ v. v.trees) ((c.in_ok-behind.ensures.reads clean3).same) ∙ same2 in
    let same4 : (g.S.Store.view c.read_all.new.store).trees ≡ old = ap (λ v. v.trees) ((c.in_ok-read_all.ensures.reads clean4).same) ∙ same3 in
    let rows : (g.S.Store.view c.read_all.new.store).trees RECORD ≡ rows_from 0 (map record_columns readable.records) = ap (λ trees. trees RECORD) same4 ∙ holds.numbered RECORD (omega arith) ∙ ap (rows_from 0) readable.records_are in
    let long : length readable.records ≤ 2 ^ 62 = (let all = ap length readable.records_are ∙ length-map readable.records record_columns in let few = readable.few RECORD (omega arith) in omega (arith, all, few)) in
    p.2.disk (c.in_err-read_all-2.ensures.again clean readable.records readable.wide long rows))

pub returns-in_err-read_all-3-clause-again : goal.returns-in_err-read_all-3-clause-again
returns-in_err-read_all-3-clause-again g c =
    let p = err_from_is_err_and c.from_residual-in_err-read_all-3.result c.from_residual-in_err-read_all-3.ensures.1 in
    rw p.1 (λ clean contents holds readable.
    let old = (g.S.Store.view c.args.store.now).trees in
    let clean5 : IsClean (g.S.Store.view c.read_all-2.new.store) = omega (arith, clean, c.read_all-3.ensures.quiet.clean) in
    let clean4 : IsClean (g.S.Store.view c.read_all.new.store) = omega (arith, clean5, c.read_all-2.ensures.quiet.clean) in
    let clean3 : IsClean (g.S.Store.view c.read_behind.new.store) = omega (arith, clean4, c.read_all.ensures.quiet.clean) in
    let clean2 : IsClean (g.S.Store.view c.last_seal.new.store) = omega (arith, clean3, c.read_behind.ensures.quiet.clean) in
    let clean1 : IsClean (g.S.Store.view c.marks_of.new.store) = omega (arith, clean2, c.last_seal.ensures.quiet.clean) in
    let same1 : (g.S.Store.view c.marks_of.new.store).trees ≡ old = ap (λ v. v.trees) ((c.in_ok-marks.ensures.reads clean1).same) in
    let same2 : (g.S.Store.view c.last_seal.new.store).trees ≡ old = ap (λ v. v.trees) ((c.in_ok-sealed.ensures.reads clean2).same) ∙ same1 in
    let same3 : (g.S.Store.view c.read_behind.new.store).trees ≡ old = ap (λ v. v.trees) ((c.in_ok-behind.ensures.reads clean3).same) ∙ same2 in
    let same4 : (g.S.Store.view c.read_all.new.store).trees ≡ old = ap (λ v. v.trees) ((c.in_ok-read_all.ensures.reads clean4).same) ∙ same3 in
    let same5 : (g.S.Store.view c.read_all-2.new.store).trees ≡ old = ap (λ v. v.trees) ((c.in_ok-read_all-2.ensures.reads clean5).same) ∙ same4 in
    let rows : (g.S.Store.view c.read_all-2.new.store).trees PROCEDURE ≡ rows_from 0 (map procedure_columns readable.procedures) = ap (λ trees. trees PROCEDURE) same5 ∙ holds.numbered PROCEDURE (omega arith) ∙ ap (rows_from 0) readable.procedures_are in
    let long : length readable.procedures ≤ 2 ^ 62 = (let all = ap length readable.procedures_are ∙ length-map readable.procedures procedure_columns in let few = readable.few PROCEDURE (omega arith) in omega (arith, all, few)) in
    p.2.disk (c.in_err-read_all-3.ensures.again clean readable.procedures (λ at d less. tt) long rows))
