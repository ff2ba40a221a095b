use Rattle.std.proofs.Common.{◌≡◌, ◌∙◌, ap, arith}
use Rattle.std.proofs.lemmas.Result.{err_from_is_err_and}
use Rattle.sqlite_trees.specs.View.{IsClean}
use Rattle.tl_ledger.specs.declared.schema.TheConstants.{CALL, TURN, REPLY, SEAL}
use Rattle.tl_ledger.proofs.counting.marks_of.Goals as goal

-- of CALL
pub returns-in_err-count_rows-3-clause-again : goal.returns-in_err-count_rows-3-clause-again
returns-in_err-count_rows-3-clause-again g c =
    let p = err_from_is_err_and c.from_residual-in_err-count_rows-3.result c.from_residual-in_err-count_rows-3.ensures.1 in
    rw (p.1, p.2) (λ clean contents marks holds marked.
    let old = (g.S.Store.view c.args.store.now).trees in
    let clean3 : IsClean (g.S.Store.view c.count_rows-3.new.store) = omega (arith, clean, c.count_rows-4.ensures.quiet.clean) in
    let clean2 : IsClean (g.S.Store.view c.count_rows-2.new.store) = omega (arith, clean3, c.count_rows-3.ensures.quiet.clean) in
    let clean1 : IsClean (g.S.Store.view c.count_rows.new.store) = omega (arith, clean2, c.count_rows-2.ensures.quiet.clean) in
    let same1 : (g.S.Store.view c.count_rows.new.store).trees ≡ old = ap (λ v. v.trees) ((c.in_ok-nodes.ensures.reads clean1).same) in
    let same2 : (g.S.Store.view c.count_rows-2.new.store).trees ≡ old = ap (λ v. v.trees) ((c.in_ok-count_rows.ensures.reads clean2).same) ∙ same1 in
    let same3 : (g.S.Store.view c.count_rows-3.new.store).trees ≡ old = ap (λ v. v.trees) ((c.in_ok-count_rows-2.ensures.reads clean3).same) ∙ same2 in
    c.in_err-count_rows-3.ensures.again clean (contents CALL) (ap (λ trees. trees CALL) same3 ∙ holds.numbered CALL (omega arith)))

-- of TURN
pub returns-in_err-count_rows-4-clause-again : goal.returns-in_err-count_rows-4-clause-again
returns-in_err-count_rows-4-clause-again g c =
    let p = err_from_is_err_and c.from_residual-in_err-count_rows-4.result c.from_residual-in_err-count_rows-4.ensures.1 in
    rw (p.1, p.2) (λ clean contents marks holds marked.
    let old = (g.S.Store.view c.args.store.now).trees in
    let clean4 : IsClean (g.S.Store.view c.count_rows-4.new.store) = omega (arith, clean, c.count_rows-5.ensures.quiet.clean) in
    let clean3 : IsClean (g.S.Store.view c.count_rows-3.new.store) = omega (arith, clean4, c.count_rows-4.ensures.quiet.clean) in
    let clean2 : IsClean (g.S.Store.view c.count_rows-2.new.store) = omega (arith, clean3, c.count_rows-3.ensures.quiet.clean) in
    let clean1 : IsClean (g.S.Store.view c.count_rows.new.store) = omega (arith, clean2, c.count_rows-2.ensures.quiet.clean) in
    let same1 : (g.S.Store.view c.count_rows.new.store).trees ≡ old = ap (λ v. v.trees) ((c.in_ok-nodes.ensures.reads clean1).same) in
    let same2 : (g.S.Store.view c.count_rows-2.new.store).trees ≡ old = ap (λ v. v.trees) ((c.in_ok-count_rows.ensures.reads clean2).same) ∙ same1 in
    let same3 : (g.S.Store.view c.count_rows-3.new.store).trees ≡ old = ap (λ v. v.trees) ((c.in_ok-count_rows-2.ensures.reads clean3).same) ∙ same2 in
    let same4 : (g.S.Store.view c.count_rows-4.new.store).trees ≡ old = ap (λ v. v.trees) ((c.in_ok-count_rows-3.ensures.reads clean4).same) ∙ same3 in
    c.in_err-count_rows-4.ensures.again clean (contents TURN) (ap (λ trees. trees TURN) same4 ∙ holds.numbered TURN (omega arith)))

-- of REPLY
pub returns-in_err-count_rows-5-clause-again : goal.returns-in_err-count_rows-5-clause-again
returns-in_err-count_rows-5-clause-again g c =
    let p = err_from_is_err_and c.from_residual-in_err-count_rows-5.result c.from_residual-in_err-count_rows-5.ensures.1 in
    rw (p.1, p.2) (λ clean contents marks holds marked.
    let old = (g.S.Store.view c.args.store.now).trees in
    let clean5 : IsClean (g.S.Store.view c.count_rows-5.new.store) = omega (arith, clean, c.count_rows-6.ensures.quiet.clean) in
    let clean4 : IsClean (g.S.Store.view c.count_rows-4.new.store) = omega (arith, clean5, c.count_rows-5.ensures.quiet.clean) in
    let clean3 : IsClean (g.S.Store.view c.count_rows-3.new.store) = omega (arith, clean4, c.count_rows-4.ensures.quiet.clean) in
    let clean2 : IsClean (g.S.Store.view c.count_rows-2.new.store) = omega (arith, clean3, c.count_rows-3.ensures.quiet.clean) in
    let clean1 : IsClean (g.S.Store.view c.count_rows.new.store) = omega (arith, clean2, c.count_rows-2.ensures.quiet.clean) in
    let same1 : (g.S.Store.view c.count_rows.new.store).trees ≡ old = ap (λ v. v.trees) ((c.in_ok-nodes.ensures.reads clean1).same) in
    let same2 : (g.S.Store.view c.count_rows-2.new.store).trees ≡ old = ap (λ v. v.trees) ((c.in_ok-count_rows.ensures.reads clean2).same) ∙ same1 in
    let same3 : (g.S.Store.view c.count_rows-3.new.store).trees ≡ old = ap (λ v. v.trees) ((c.in_ok-count_rows-2.ensures.reads clean3).same) ∙ same2 in
    let same4 : (g.S.Store.view c.count_rows-4.new.store).trees ≡ old = ap (λ v. v.trees) ((c.in_ok-count_rows-3.ensures.reads clean4).same) ∙ same3 in
    let same5 : (g.S.Store.view c.count_rows-5.new.store).trees ≡ old = ap (λ v. v.trees) ((c.in_ok-count_rows-4.ensures.reads clean5).same) ∙ same4 in
    c.in_err-count_rows-5.ensures.again clean (contents REPLY) (ap (λ trees. trees REPLY) same5 ∙ holds.numbered REPLY (omega arith)))

-- of SEAL
pub returns-in_err-count_rows-6-clause-again : goal.returns-in_err-count_rows-6-clause-again
returns-in_err-count_rows-6-clause-again g c =
    let p = err_from_is_err_and c.from_residual-in_err-count_rows-6.result c.from_residual-in_err-count_rows-6.ensures.1 in
    rw (p.1, p.2) (λ clean contents marks holds marked.
    let old = (g.S.Store.view c.args.store.now).trees in
    let clean6 : IsClean (g.S.Store.view c.count_rows-6.new.store) = omega (arith, clean, c.count_rows-7.ensures.quiet.clean) in
    let clean5 : IsClean (g.S.Store.view c.count_rows-5.new.store) = omega (arith, clean6, c.count_rows-6.ensures.quiet.clean) in
    let clean4 : IsClean (g.S.Store.view c.count_rows-4.new.store) = omega (arith, clean5, c.count_rows-5.ensures.quiet.clean) in
    let clean3 : IsClean (g.S.Store.view c.count_rows-3.new.store) = omega (arith, clean4, c.count_rows-4.ensures.quiet.clean) in
    let clean2 : IsClean (g.S.Store.view c.count_rows-2.new.store) = omega (arith, clean3, c.count_rows-3.ensures.quiet.clean) in
    let clean1 : IsClean (g.S.Store.view c.count_rows.new.store) = omega (arith, clean2, c.count_rows-2.ensures.quiet.clean) in
    let same1 : (g.S.Store.view c.count_rows.new.store).trees ≡ old = ap (λ v. v.trees) ((c.in_ok-nodes.ensures.reads clean1).same) in
    let same2 : (g.S.Store.view c.count_rows-2.new.store).trees ≡ old = ap (λ v. v.trees) ((c.in_ok-count_rows.ensures.reads clean2).same) ∙ same1 in
    let same3 : (g.S.Store.view c.count_rows-3.new.store).trees ≡ old = ap (λ v. v.trees) ((c.in_ok-count_rows-2.ensures.reads clean3).same) ∙ same2 in
    let same4 : (g.S.Store.view c.count_rows-4.new.store).trees ≡ old = ap (λ v. v.trees) ((c.in_ok-count_rows-3.ensures.reads clean4).same) ∙ same3 in
    let same5 : (g.S.Store.view c.count_rows-5.new.store).trees ≡ old = ap (λ v. v.trees) ((c.in_ok-count_rows-4.ensures.reads clean5).same) ∙ same4 in
    let same6 : (g.S.Store.view c.count_rows-6.new.store).trees ≡ old = ap (λ v. v.trees) ((c.in_ok-count_rows-5.ensures.reads clean6).same) ∙ same5 in
    c.in_err-count_rows-6.ensures.again clean (contents SEAL) (ap (λ trees. trees SEAL) same6 ∙ holds.numbered SEAL (omega arith)))
