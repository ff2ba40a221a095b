use Rattle.std.proofs.Common.{rules, ◌≡◌, ◌∙◌, suc, List, length, map, ap, sym, subst, arith}
use Rattle.std.proofs.lemmas.List.{length-map}
use Rattle.sqlite_trees.specs.Tree.{Trees}
use Rattle.sqlite_trees.specs.View.{IsClean}
use Rattle.sqlite_value.specs.Order.{Row}
use Rattle.tl_ledger.proofs.OnlyReading.{then_reads}
use Rattle.tl_ledger.specs.Contents.{Holds}
use Rattle.tl_ledger.specs.declared.rows.SealRow.{SealRow}
use Rattle.tl_ledger.specs.declared.schema.TheConstants.{SEAL}
use Rattle.tl_ledger.specs.News.{seal_columns}
use Rattle.tl_store_commands.specs.Remembering.{Began}
use Rattle.tl_store_commands.proofs.KeyedLemmas.{finds_none, finds_on, finds_last, all_read}
use Rattle.tl_store_commands.proofs.remembering.remember_epochs.Goals as goal

pub loop-epoch-init : goal.loop-epoch-init
loop-epoch-init g c =
    let first = g.S.Store.view c.args.store.now in (
      search rules,
      (λ clean contents holds marked.
          let read : contents SEAL ≡ map seal_columns c.in_ok-seals.seals.items = all_read contents first.trees SEAL (map seal_columns c.in_ok-seals.seals.items) (omega arith) holds (c.in_ok-seals.ensures.rows clean) in
          (read, finds_none contents c.first_recalled-first.result c.args.index)),
      search rules,
      search rules,
      search rules,
    )

pub loop-epoch-preserved : goal.loop-epoch-preserved
loop-epoch-preserved g c =
    let first = g.S.Store.view c.args.store.now in
    let mid = g.S.Store.view c.loop-epoch.store in
    let new = g.S.Store.view c.remember_epoch.new.store in (
      (λ clean contents holds marked start all.
          let before : IsClean mid = omega (arith, clean, c.remember_epoch.ensures.clean) in
          let same : mid.trees ≡ first.trees = ap (λ v. v.trees) ((c.loop-epoch.invariant.2 before).same) in
          c.in_ok-remember_epoch.ensures.keys clean contents (subst (λ (db : Trees). Holds db contents) (sym same) holds) marked start
          (c.loop-epoch.invariant.0 before contents holds marked start all)),
      (λ clean contents holds marked.
          let before : IsClean mid = omega (arith, clean, c.remember_epoch.ensures.clean) in
          let same : mid.trees ≡ first.trees = ap (λ v. v.trees) ((c.loop-epoch.invariant.2 before).same) in
          let shown : Holds mid.trees contents = subst (λ (db : Trees). Holds db contents) (sym same) holds in
          let past = c.loop-epoch.invariant.1 before contents holds marked in
          let read : contents SEAL ≡ map seal_columns c.as_slice-in-loop-epoch.result.now =
          subst (λ (l : List SealRow). contents SEAL ≡ map seal_columns l) (sym c.as_slice-in-loop-epoch.ensures.value) past.0 in (
            past.0,
            finds_on contents c.first_recalled-first.result c.loop-epoch.epoch c.loop-epoch.now c.remember_epoch.new.index past.1
                (c.in_ok-remember_epoch.ensures.found clean contents shown marked read),
          )),
      (λ clean.
          let before : IsClean mid = omega (arith, clean, c.remember_epoch.ensures.clean) in
          then_reads first mid new (c.loop-epoch.invariant.2 before) (c.in_ok-remember_epoch.ensures.reads clean)),
      search rules,
      omega (arith, c.loop-epoch.invariant.4, c.remember_epoch.ensures.clean),
    )

pub returns-clause-whole : goal.returns-clause-whole
returns-clause-whole g c = λ clean contents holds marked.
    let past = c.loop-epoch.invariant.1 clean contents holds marked in
    let items = c.in_ok-seals.seals.items in
    let many : length (contents SEAL) ≡ length items = ap length past.0 ∙ length-map items seal_columns in
    let value = c.as_slice.ensures.value in
    finds_last contents c.first_recalled-first.result c.loop-epoch.epoch c.loop-epoch.now past.1 (omega (arith, many, c.loop-epoch-test.false))
    (λ epoch calls replies place began below lately.
    let here : Began (map seal_columns c.as_slice.result.now) (suc epoch) calls replies =
    subst (λ (l : List SealRow). Began (map seal_columns l) (suc epoch) calls replies) (sym value) (subst (λ (l : List Row). Began l (suc epoch) calls replies) past.0 began) in
    c.first_recalled-first.ensures epoch calls replies place here below (omega (arith, lately, marked.calls)))
