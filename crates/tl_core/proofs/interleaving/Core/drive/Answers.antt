use Rattle.std.proofs.Common.{◌≡◌, length, take, refl, sym, ap, ◌∙◌, subst, arith, rules}
use Rattle.std.proofs.Math.Seq.{take-length}
use Rattle.std.proofs.lemmas.List.{append-nil}
use Rattle.tl_core.specs.Cores.{done_by}
use Rattle.tl_core.proofs.RunParts.{parts_more}
use Rattle.tl_core.specs.Entries.{IsEntry, after_entry, Traced, after_moves}
use Rattle.tl_core.proofs.DriveLemmas.{traced_more, after_more, moved_more, take_more, spent_on, counted_on, within_budgets}
use Rattle.tl_core.proofs.interleaving.Core.drive.Goals as goal

pub loop-one-init : goal.loop-one-init
loop-one-init c = record {
  traced = rw c.in_ok-trace.ensures.items tt;
  after = refl;
  size = c.in_ok-trace.ensures.len;
  room = search rules;
  parts = λ d. rw c.in_ok-trace.ensures.items (sym (append-nil (done_by c.args.self.now.seen d)));
  counted = c.lemma_is_sound.ensures.counted;
  few = rw c.in_ok-trace.ensures.items (omega arith);
}

pub push_reserved-requires : goal.push_reserved-requires
push_reserved-requires c = let size = c.loop-one.invariant.size in let room = c.loop-one.invariant.room in omega arith

pub loop-one-preserved : goal.loop-one-preserved
loop-one-preserved c =
    let before = c.loop-one.invariant in
    let is = subst (λ v. IsEntry v c.one-item.result c.make_move.result) before.after c.make_move.ensures.entry in
    let done = take_more c.args.moves.now c.loop-one.one-index c.one-item.result c.loop-one-test.true c.one-item.is in
    record {
      traced = rw (c.push_reserved.ensures.items, done) (traced_more c.args.self.now.seen _ _ _ _ before.traced is);
      after = rw (c.push_reserved.ensures.items, done) (c.make_move.ensures.after ∙ ap (λ v. after_entry v c.one-item.result c.make_move.result) before.after ∙ sym (after_more c.args.self.now.seen _ _ c.one-item.result c.make_move.result before.traced));
      size = search rules;
      room = search rules;
      parts = λ d. rw c.push_reserved.ensures.items (parts_more d _ _ _ c.loop-one.trace.items c.make_move.result (before.parts d) (c.make_move.ensures.parts d));
      counted = rw c.make_move.ensures.after (counted_on c.loop-one.self.seen c.one-item.result c.make_move.result before.counted c.make_move.ensures.entry);
      few = let more = moved_more c.loop-one.trace.items c.make_move.result in let on = spent_on c.loop-one.self.seen c.one-item.result c.make_move.result before.counted c.make_move.ensures.entry in rw (c.push_reserved.ensures.items, c.make_move.ensures.after) (omega arith);
    }

pub returns-clause-traced : goal.returns-clause-traced
returns-clause-traced c =
    let full : c.loop-one.one-index ≡ length c.args.moves.now = let end = c.loop-one.auto.one-index-end in omega arith in
    subst (λ l. Traced c.args.self.now.seen l c.loop-one.trace.items) (ap (λ n. take n c.args.moves.now) full ∙ take-length c.args.moves.now) c.loop-one.invariant.traced

pub returns-clause-after : goal.returns-clause-after
returns-clause-after c =
    let full : c.loop-one.one-index ≡ length c.args.moves.now = let end = c.loop-one.auto.one-index-end in omega arith in
    c.loop-one.invariant.after ∙ ap (λ l. after_moves c.args.self.now.seen l c.loop-one.trace.items) (ap (λ n. take n c.args.moves.now) full ∙ take-length c.args.moves.now)

pub returns-clause-bounded : goal.returns-clause-bounded
returns-clause-bounded c = within_budgets c.loop-one.self.seen _ c.lemma_is_sound-2.ensures.counted c.lemma_is_sound-2.ensures.counts c.loop-one.invariant.few
