use Rattle.std.proofs.Common.{◌≡◌, ◌⊎◌, inl, inr, Some, subst, sym, arith}
use Rattle.sqlite_trees.specs.Tree.{Trees}
use Rattle.sqlite_trees.specs.View.{IsClean}
use Rattle.tl_ledger.specs.Contents.{Holds, IsAtRest}
use Rattle.tl_keys.specs.Keys.{recall}
use Rattle.tl_store_commands.specs.Remembering.{IsStoredUnder}
use Rattle.tl_store_commands.proofs.remembering.remember_keys.Goals as goal

pub returns-clause-keys : goal.returns-clause-keys
returns-clause-keys g c = λ clean contents holds marked.
    let before = g.S.Store.view c.args.ledger.store in
    let same_store = c.new.ensures.0 in
    let was_clean : IsClean (g.S.Store.view c.remember_epochs.new.store) = rw same_store at clean in
    let first_clean : IsClean before = omega (arith, was_clean, c.remember_epochs.ensures.clean) in
    let rest : IsAtRest before = c.args.ledger.rests c.requires first_clean in
    let shown : Holds before.trees contents = subst (λ (db : Trees). Holds db contents) (sym rest.settled) holds in
    c.in_ok-now.ensures.keys was_clean contents shown marked c.args.index (λ key kept is. inl is)

pub returns-clause-whole : goal.returns-clause-whole
returns-clause-whole g c = λ clean contents holds marked.
    let before = g.S.Store.view c.args.ledger.store in
    let same_store = c.new.ensures.0 in
    let was_clean : IsClean (g.S.Store.view c.remember_epochs.new.store) = rw same_store at clean in
    let first_clean : IsClean before = omega (arith, was_clean, c.remember_epochs.ensures.clean) in
    let rest : IsAtRest before = c.args.ledger.rests c.requires first_clean in
    let shown : Holds before.trees contents = subst (λ (db : Trees). Holds db contents) (sym rest.settled) holds in
    c.in_ok-now.ensures.whole was_clean contents shown marked
