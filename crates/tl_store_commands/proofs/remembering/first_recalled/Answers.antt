use Rattle.std.proofs.Common.{suc, map, inl, inr, subst, arith}
use Rattle.tl_ledger.specs.News.{seal_columns}
use Rattle.tl_store_commands.specs.Remembering.{Began}
use Rattle.tl_store_commands.proofs.KeyedLemmas.{first_lately, not_lately, last_or_before}
use Rattle.tl_store_commands.proofs.remembering.first_recalled.Goals as goal

pub returns-in_default : goal.returns-in_default
returns-in_default c = first_lately c.args.seals.now c.args.marks.now.calls c.loop-epoch.epoch c.loop-epoch.invariant

pub returns-in_default-2 : goal.returns-in_default-2
returns-in_default-2 c = first_lately c.args.seals.now c.args.marks.now.calls c.loop-epoch.epoch c.loop-epoch.invariant

pub loop-epoch-preserved : goal.loop-epoch-preserved
loop-epoch-preserved c = λ k calls replies place less began below lately.
    elim (last_or_before k c.loop-epoch.epoch less) [
      | inl same ↦ not_lately c.args.seals.now c.args.marks.now.calls c.loop-epoch.epoch calls replies place c.in-Some.counts c.in-Some.ensures
          (omega (arith, c.if-counts-earliest.true, c.saturating_sub-earliest.ensures)) (subst (λ e. Began (map seal_columns c.args.seals.now) (suc e) calls replies) same began) below lately
      | inr earlier ↦ c.loop-epoch.invariant k calls replies place earlier began below lately
    ]

pub returns : goal.returns
returns c = λ epoch calls replies place began below lately.
    let first = first_lately c.args.seals.now c.args.marks.now.calls c.loop-epoch.epoch c.loop-epoch.invariant epoch calls replies place began below lately in
    omega (arith, first, c.loop-epoch-test.false)
