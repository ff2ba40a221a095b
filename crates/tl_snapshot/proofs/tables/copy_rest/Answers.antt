use Rattle.std.proofs.Common.{rules, ◌≡◌, true, subst, arith}
use Rattle.sqlite_trees.specs.View.{IsClean}
use Rattle.tl_ledger.proofs.OnlyReading.{then_reads}
use Rattle.tl_snapshot.specs.Copies.{PutsNext}
use Rattle.tl_snapshot.proofs.CopyLemmas.{copied_none, copied_more}
use Rattle.tl_snapshot.proofs.tables.copy_rest.Goals as goal

pub loop-number-init : goal.loop-number-init
loop-number-init g c = (
  c.requires.live,
  λ from_clean to_clean rows is sorted empty. copied_none rows (g.F.Store.view c.args.from.now) (g.T.Store.view c.args.to.now) c.args.table is empty,
  search rules,
  search rules,
  search rules,
  search rules,
  search rules,
  search rules,
)

pub loop-number-preserved : goal.loop-number-preserved
loop-number-preserved g c =
    let from = g.F.Store.view c.loop-number.from in
    let from_then = g.F.Store.view c.copy_next.new.from in
    let to = g.T.Store.view c.loop-number.to in
    let to_then = g.T.Store.view c.copy_next.new.to in
    let more : c.in_ok-copy_next.field-0 ≡ true = search rules in (
      c.in_ok-copy_next.ensures.live,
      λ from_clean to_clean rows is sorted empty.
          let from_before : IsClean from = omega (arith, from_clean, c.copy_next.ensures.from_quiet.clean) in
          let to_before : IsClean to = omega (arith, to_clean, c.copy_next.ensures.to_quiet.clean) in
          let puts : PutsNext from from_then to to_then c.args.table true = subst (PutsNext from from_then to to_then c.args.table) more (c.in_ok-copy_next.ensures.copied from_clean to_clean) in
          copied_more rows from from_then (g.T.Store.view c.args.to.now) to to_then c.args.table sorted (c.loop-number.invariant.1 from_before to_before rows is sorted empty) puts,
      λ from_clean.
          let from_before : IsClean from = omega (arith, from_clean, c.copy_next.ensures.from_quiet.clean) in
          then_reads _ _ _ (c.loop-number.invariant.2 from_before) (c.in_ok-copy_next.ensures.reads from_clean),
      search rules,
      search rules,
      search rules,
      search rules,
      search rules,
    )
