use Rattle.std.proofs.Common.{rules, ◌≡◌, ◌∙◌, ◌∷◌, ℤ, false, filter, sym, ap, subst, arith, w64, to_z, of_z}
use Rattle.sqlite_value.specs.declared.value.Value.TheVariants.{Int}
use Rattle.sqlite_trees.specs.Tree.{has_rowid, put_row}
use Rattle.sqlite_trees.specs.View.{IsClean, Finds}
use Rattle.tl_key_table.specs.declared.table.TheConstants.{KEY}
use Rattle.tl_key_table.specs.KeyTable.{HasUnder, key_columns}
use Rattle.tl_key_table.proofs.KeyLemmas.{Lacks, put_here, stays}
use Rattle.tl_key_table.proofs.table.put_key.Goals as goal

pub returns-clause-has : goal.returns-clause-has
returns-clause-has g c = λ done clean.
    let clean1 : IsClean (g.S.Store.view c.get.new.self) = omega (arith, clean, c.put.ensures.quiet.clean) in
    let rows = (g.S.Store.view c.args.store.now).trees KEY in
    let columns = key_columns c.args.entry.now in
    let none : c.in_ok-get.field-0 ≡ false = search rules in
    let id : to_z w64 (of_z w64 c.args.number) ≡ c.args.number = search rules in
    let lacks : Lacks rows c.args.number = subst (λ (n : ℤ). Lacks rows n) id (subst (Finds rows (to_z w64 (of_z w64 c.args.number)) c.get.new.row) none (c.in_ok-get.ensures.ok clean1)) in
    let trees : (g.S.Store.view c.put.new.self).trees KEY ≡ put_row c.write_row.new.row ((g.S.Store.view c.get.new.self).trees KEY) = ap (λ v. v.trees KEY) (c.in_ok-put.ensures.ok clean).is in
    let all : (g.S.Store.view c.put.new.self).trees KEY ≡ put_row (Int c.args.number ∷ columns) rows =
    trees ∙ ap (λ r. put_row r ((g.S.Store.view c.get.new.self).trees KEY)) c.in_ok-write_row.ensures
    ∙ ap (λ (m : ℤ). put_row (Int m ∷ columns) ((g.S.Store.view c.get.new.self).trees KEY)) id ∙ ap (λ v. put_row (Int c.args.number ∷ columns) (v.trees KEY)) (c.in_ok-get.ensures.same clean1) in
    ap (filter (has_rowid c.args.number)) all ∙ put_here c.args.number columns rows lacks

pub returns-clause-stay : goal.returns-clause-stay
returns-clause-stay g c = λ done clean n k has.
    let clean1 : IsClean (g.S.Store.view c.get.new.self) = omega (arith, clean, c.put.ensures.quiet.clean) in
    let rows = (g.S.Store.view c.args.store.now).trees KEY in
    let columns = key_columns c.args.entry.now in
    let none : c.in_ok-get.field-0 ≡ false = search rules in
    let id : to_z w64 (of_z w64 c.args.number) ≡ c.args.number = search rules in
    let lacks : Lacks rows c.args.number = subst (λ (n : ℤ). Lacks rows n) id (subst (Finds rows (to_z w64 (of_z w64 c.args.number)) c.get.new.row) none (c.in_ok-get.ensures.ok clean1)) in
    let trees : (g.S.Store.view c.put.new.self).trees KEY ≡ put_row c.write_row.new.row ((g.S.Store.view c.get.new.self).trees KEY) = ap (λ v. v.trees KEY) (c.in_ok-put.ensures.ok clean).is in
    let all : (g.S.Store.view c.put.new.self).trees KEY ≡ put_row (Int c.args.number ∷ columns) rows =
    trees ∙ ap (λ r. put_row r ((g.S.Store.view c.get.new.self).trees KEY)) c.in_ok-write_row.ensures
    ∙ ap (λ (m : ℤ). put_row (Int m ∷ columns) ((g.S.Store.view c.get.new.self).trees KEY)) id ∙ ap (λ v. put_row (Int c.args.number ∷ columns) (v.trees KEY)) (c.in_ok-get.ensures.same clean1) in
    subst (λ l. HasUnder l n k) (sym all) (stays c.args.number columns rows n k lacks has)
