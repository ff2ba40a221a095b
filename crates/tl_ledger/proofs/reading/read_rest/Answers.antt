use Rattle.std.proofs.Common.{rules, ◌≡◌, ◌≤◌, subst, ◌+◌, ◌∷◌, [], map, length, pos, true, false, refl, ap, ◌∙◌, arith}
use Rattle.std.proofs.lemmas.List.{map-append, length-map, length-append}
use Rattle.sqlite_value.specs.declared.value.Value.TheVariants.{Int}
use Rattle.std.proofs.lemmas.Result.{err_from_is_err_and}
use Rattle.sqlite_trees.specs.View.{IsClean}
use Rattle.tl_ledger.specs.Entries.{BeginsWithEntry}
use Rattle.tl_ledger.proofs.ReadLemmas.{reads_none, reads_more, reads_all, next_entry, no_more_rows}
use Rattle.tl_ledger.proofs.OnlyReading.{advanced_reads, then_reads}
use Rattle.tl_ledger.proofs.reading.read_rest.Goals as goal

pub loop-number-init : goal.loop-number-init
loop-number-init g c = (
  c.requires.live,
  (let none = ap length c.new-items.ensures.items in omega arith),
  λ clean given is. rw c.new-items.ensures.items (reads_none given _ _ is),
  λ clean. record { same = refl },
  search rules,
  search rules,
)

pub loop-number-preserved : goal.loop-number-preserved
loop-number-preserved g c =
    let items = c.in-Ok.ensures.items in
    let old = map g.T.Entry.columns c.loop-number.items.items in
    let long : length old ≡ length c.loop-number.items.items = length-map c.loop-number.items.items g.T.Entry.columns in
    let many : c.loop-number.number ≡ c.args.first + length old = omega (arith, c.loop-number.invariant.1, long) in (
      c.in_ok-item.ensures.live,
      (let l = ap length items ∙ length-append c.loop-number.items.items (c.in-Some.item ∷ []) in omega (arith, c.loop-number.invariant.1)),
      λ clean given is.
          let so_far = c.loop-number.invariant.2 (omega (arith, c.next_item.ensures.quiet.clean)) given is in
          let moves = (rw c.in-Some.is at c.in_ok-item.ensures.some) clean in
          rw (items, map-append) (reads_more given _ _ _ _ old _ (g.T.Entry.columns c.in-Some.item) so_far moves (ap (λ k. Int (pos k) ∷ g.T.Entry.columns c.in-Some.item) many)),
      λ clean.
          let before : IsClean (g.S.Store.view c.loop-number.store) = omega (arith, clean, c.next_item.ensures.quiet.clean) in
          let moves = (rw c.in-Some.is at c.in_ok-item.ensures.some) clean in
          then_reads _ _ _ (c.loop-number.invariant.3 before) (advanced_reads _ (g.S.Store.view c.next_item.new.store) _ true moves),
      search rules,
      search rules,
    )

pub returns-in_default-clause-rows : goal.returns-in_default-clause-rows
returns-in_default-clause-rows g c = λ clean given is.
    let before : IsClean (g.S.Store.view c.loop-number.store) = omega (arith, clean, c.next_item.ensures.quiet.clean) in
    let so_far = c.loop-number.invariant.2 before given is in
    let moves = (rw c.in_default.is at c.in_ok-item.ensures.none) clean in
    (reads_all given _ _ _ _ (map g.T.Entry.columns c.loop-number.items.items) [] so_far moves).0

pub returns-in_default-clause-reads : goal.returns-in_default-clause-reads
returns-in_default-clause-reads g c = λ clean.
    let before : IsClean (g.S.Store.view c.loop-number.store) = omega (arith, clean, c.next_item.ensures.quiet.clean) in
    let moves = (rw c.in_default.is at c.in_ok-item.ensures.none) clean in
    then_reads _ _ _ (c.loop-number.invariant.3 before) (advanced_reads _ (g.S.Store.view c.next_item.new.store) [] false moves)

pub returns-in_err-item-clause-again : goal.returns-in_err-item-clause-again
returns-in_err-item-clause-again g c =
    let p = err_from_is_err_and c.from_residual.result c.from_residual.ensures.1 in
    rw (p.1, p.2) (λ clean xs whole few is.
    let before : IsClean (g.S.Store.view c.loop-number.store) = omega (arith, clean, c.next_item.ensures.quiet.clean) in
    let so_far = c.loop-number.invariant.2 before _ is in
    let done = map g.T.Entry.columns c.loop-number.items.items in
    let number : c.args.first + length done ≡ c.loop-number.number = omega (arith, c.loop-number.invariant.1, length-map c.loop-number.items.items g.T.Entry.columns) in
    c.in_err-item.ensures.again clean so_far.left so_far.cursor
    (subst (λ n. BeginsWithEntry g.T.ReadEntry.is_whole g.T.Entry.columns n so_far.left) number (next_entry g.T.ReadEntry.is_whole g.T.Entry.columns c.args.first xs done so_far.left whole so_far.rows)))

pub returns-clause-again : goal.returns-clause-again
returns-clause-again g c = λ clean xs whole few is.
    let so_far = c.loop-number.invariant.2 clean _ is in
    let columns = map g.T.Entry.columns xs in
    let done = map g.T.Entry.columns c.loop-number.items.items in
    let fewer : length done ≤ length columns = no_more_rows c.args.first columns done so_far.left so_far.rows in
    let all : length columns ≡ length xs = length-map xs g.T.Entry.columns in
    let read : length done ≡ length c.loop-number.items.items = length-map c.loop-number.items.items g.T.Entry.columns in
    absurd (omega (arith, fewer, all, read, few, c.loop-number.invariant.1))
