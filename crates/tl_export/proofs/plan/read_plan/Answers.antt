use Rattle.std.proofs.Common.{◌≡◌, ◌∙◌, sym, ap, arith}
use Rattle.std.proofs.lemmas.Result.{err_from_is_err_and}
use Rattle.sqlite_trees.specs.View.{IsClean}
use Rattle.tl_ledger.specs.declared.schema.TheConstants.{NODE, SEAL, OPENING, RECORD}
use Rattle.tl_ledger.specs.News.{node_columns, record_columns, seal_columns}
use Rattle.tl_export.proofs.ReadLemmas.{all_read, rows_there, rows_few}
use Rattle.tl_export.proofs.plan.read_plan.Goals as goal

pub returns-clause-plan : goal.returns-clause-plan
returns-clause-plan g c = λ clean contents holds.
    let old = (g.S.Store.view c.args.store.now).trees in
    let clean4 : IsClean (g.S.Store.view c.read_all-3.new.store) = omega (arith, clean, c.read_all-4.ensures.quiet.clean) in
    let clean3 : IsClean (g.S.Store.view c.read_all-2.new.store) = omega (arith, clean4, c.read_all-3.ensures.quiet.clean) in
    let clean2 : IsClean (g.S.Store.view c.read_all.new.store) = omega (arith, clean3, c.read_all-2.ensures.quiet.clean) in
    let clean1 : IsClean (g.S.Store.view c.marks_of.new.store) = omega (arith, clean2, c.read_all.ensures.quiet.clean) in
    let same1 : (g.S.Store.view c.marks_of.new.store).trees ≡ old = ap (λ v. v.trees) ((c.in_ok-marks_of.ensures.reads clean1).same) in
    let same2 : (g.S.Store.view c.read_all.new.store).trees ≡ old = ap (λ v. v.trees) ((c.in_ok-read_all.ensures.reads clean2).same) ∙ same1 in
    let same3 : (g.S.Store.view c.read_all-2.new.store).trees ≡ old = ap (λ v. v.trees) ((c.in_ok-read_all-2.ensures.reads clean3).same) ∙ same2 in
    let same4 : (g.S.Store.view c.read_all-3.new.store).trees ≡ old = ap (λ v. v.trees) ((c.in_ok-read_all-3.ensures.reads clean4).same) ∙ same3 in record {
      marked = c.in_ok-marks_of.ensures.marks clean1 contents holds;
      nodes = all_read contents (g.S.Store.view c.marks_of.new.store).trees old NODE _ (omega arith) holds same1 (c.in_ok-read_all.ensures.rows clean2);
      seals = all_read contents (g.S.Store.view c.read_all.new.store).trees old SEAL _ (omega arith) holds same2 (c.in_ok-read_all-2.ensures.rows clean3);
      opening = all_read contents (g.S.Store.view c.read_all-2.new.store).trees old OPENING _ (omega arith) holds same3 (c.in_ok-read_all-3.ensures.rows clean4);
      records = all_read contents (g.S.Store.view c.read_all-3.new.store).trees old RECORD _ (omega arith) holds same4 (c.in_ok-read_all-4.ensures.rows clean);
    }

pub returns-in_err-marks_of-clause-again : goal.returns-in_err-marks_of-clause-again
returns-in_err-marks_of-clause-again g c =
    let p = err_from_is_err_and c.from_residual.result c.from_residual.ensures.1 in
    rw p.1 (λ clean contents holds can. p.2 (c.in_err-marks_of.ensures.again clean contents can.readable.marks holds can.readable.marked))

pub returns-in_err-read_all-clause-again : goal.returns-in_err-read_all-clause-again
returns-in_err-read_all-clause-again g c =
    let p = err_from_is_err_and c.from_residual-in_err-read_all.result c.from_residual-in_err-read_all.ensures.1 in
    rw p.1 (λ clean contents holds can.
    let old = (g.S.Store.view c.args.store.now).trees in
    let clean1 : IsClean (g.S.Store.view c.marks_of.new.store) = omega (arith, clean, c.read_all.ensures.quiet.clean) in
    let same1 : (g.S.Store.view c.marks_of.new.store).trees ≡ old = ap (λ v. v.trees) ((c.in_ok-marks_of.ensures.reads clean1).same) in
    p.2 (c.in_err-read_all.ensures.again clean can.readable.nodes (λ at d less. tt) (rows_few contents NODE node_columns can.readable.nodes (can.readable.nodes_are) (can.readable.few NODE (omega arith)))
    (rows_there contents (g.S.Store.view c.marks_of.new.store).trees old NODE node_columns can.readable.nodes (omega arith) holds same1 (can.readable.nodes_are))))

pub returns-in_err-read_all-2-clause-again : goal.returns-in_err-read_all-2-clause-again
returns-in_err-read_all-2-clause-again g c =
    let p = err_from_is_err_and c.from_residual-in_err-read_all-2.result c.from_residual-in_err-read_all-2.ensures.1 in
    rw p.1 (λ clean contents holds can.
    let old = (g.S.Store.view c.args.store.now).trees in
    let clean2 : IsClean (g.S.Store.view c.read_all.new.store) = omega (arith, clean, c.read_all-2.ensures.quiet.clean) in
    let clean1 : IsClean (g.S.Store.view c.marks_of.new.store) = omega (arith, clean2, c.read_all.ensures.quiet.clean) in
    let same1 : (g.S.Store.view c.marks_of.new.store).trees ≡ old = ap (λ v. v.trees) ((c.in_ok-marks_of.ensures.reads clean1).same) in
    let same2 : (g.S.Store.view c.read_all.new.store).trees ≡ old = ap (λ v. v.trees) ((c.in_ok-read_all.ensures.reads clean2).same) ∙ same1 in
    p.2 (c.in_err-read_all-2.ensures.again clean can.entries.seals.entries (λ at d less. tt) (rows_few contents SEAL seal_columns can.entries.seals.entries (sym can.entries.seals.are) (can.readable.few SEAL (omega arith)))
    (rows_there contents (g.S.Store.view c.read_all.new.store).trees old SEAL seal_columns can.entries.seals.entries (omega arith) holds same2 (sym can.entries.seals.are))))

pub returns-in_err-read_all-3-clause-again : goal.returns-in_err-read_all-3-clause-again
returns-in_err-read_all-3-clause-again g c =
    let p = err_from_is_err_and c.from_residual-in_err-read_all-3.result c.from_residual-in_err-read_all-3.ensures.1 in
    rw p.1 (λ clean contents holds can.
    let old = (g.S.Store.view c.args.store.now).trees in
    let clean3 : IsClean (g.S.Store.view c.read_all-2.new.store) = omega (arith, clean, c.read_all-3.ensures.quiet.clean) in
    let clean2 : IsClean (g.S.Store.view c.read_all.new.store) = omega (arith, clean3, c.read_all-2.ensures.quiet.clean) in
    let clean1 : IsClean (g.S.Store.view c.marks_of.new.store) = omega (arith, clean2, c.read_all.ensures.quiet.clean) in
    let same1 : (g.S.Store.view c.marks_of.new.store).trees ≡ old = ap (λ v. v.trees) ((c.in_ok-marks_of.ensures.reads clean1).same) in
    let same2 : (g.S.Store.view c.read_all.new.store).trees ≡ old = ap (λ v. v.trees) ((c.in_ok-read_all.ensures.reads clean2).same) ∙ same1 in
    let same3 : (g.S.Store.view c.read_all-2.new.store).trees ≡ old = ap (λ v. v.trees) ((c.in_ok-read_all-2.ensures.reads clean3).same) ∙ same2 in
    p.2 (c.in_err-read_all-3.ensures.again clean can.opening can.wide (rows_few contents OPENING record_columns can.opening (can.opening_are) (can.readable.few OPENING (omega arith)))
    (rows_there contents (g.S.Store.view c.read_all-2.new.store).trees old OPENING record_columns can.opening (omega arith) holds same3 (can.opening_are))))

pub returns-in_err-read_all-4-clause-again : goal.returns-in_err-read_all-4-clause-again
returns-in_err-read_all-4-clause-again g c =
    let p = err_from_is_err_and c.from_residual-in_err-read_all-4.result c.from_residual-in_err-read_all-4.ensures.1 in
    rw p.1 (λ clean contents holds can.
    let old = (g.S.Store.view c.args.store.now).trees in
    let clean4 : IsClean (g.S.Store.view c.read_all-3.new.store) = omega (arith, clean, c.read_all-4.ensures.quiet.clean) in
    let clean3 : IsClean (g.S.Store.view c.read_all-2.new.store) = omega (arith, clean4, c.read_all-3.ensures.quiet.clean) in
    let clean2 : IsClean (g.S.Store.view c.read_all.new.store) = omega (arith, clean3, c.read_all-2.ensures.quiet.clean) in
    let clean1 : IsClean (g.S.Store.view c.marks_of.new.store) = omega (arith, clean2, c.read_all.ensures.quiet.clean) in
    let same1 : (g.S.Store.view c.marks_of.new.store).trees ≡ old = ap (λ v. v.trees) ((c.in_ok-marks_of.ensures.reads clean1).same) in
    let same2 : (g.S.Store.view c.read_all.new.store).trees ≡ old = ap (λ v. v.trees) ((c.in_ok-read_all.ensures.reads clean2).same) ∙ same1 in
    let same3 : (g.S.Store.view c.read_all-2.new.store).trees ≡ old = ap (λ v. v.trees) ((c.in_ok-read_all-2.ensures.reads clean3).same) ∙ same2 in
    let same4 : (g.S.Store.view c.read_all-3.new.store).trees ≡ old = ap (λ v. v.trees) ((c.in_ok-read_all-3.ensures.reads clean4).same) ∙ same3 in
    p.2 (c.in_err-read_all-4.ensures.again clean can.readable.records can.readable.wide (rows_few contents RECORD record_columns can.readable.records (can.readable.records_are) (can.readable.few RECORD (omega arith)))
    (rows_there contents (g.S.Store.view c.read_all-3.new.store).trees old RECORD record_columns can.readable.records (omega arith) holds same4 (can.readable.records_are))))
