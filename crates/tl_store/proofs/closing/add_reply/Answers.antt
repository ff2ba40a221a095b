use Rattle.std.proofs.Common.{rules, ◌≡◌, ◌≢◌, ◌+◌, ◌∙◌, pos, ap, sym, subst, Some, string_bytes, IsTrue, IsFalse}
use Rattle.std.specs.Prelude.{All}
use Rattle.tl_tree_locking.specs.World.{reply_of}
use Rattle.tl_core.specs.Cores.{world_of}
use Rattle.tl_rows.specs.Rows.{numbers_in}
use Rattle.tl_store.specs.Closing.{HasReply, AreLateReplies}
use Rattle.tl_store.proofs.ReplyLemmas.{replied}
use Rattle.tl_store.proofs.ClosingLemmas.{late_stays, late_push, has_none}
use Rattle.tl_store.proofs.closing.add_reply.Goals as goal

pub returns-then-has_reply-clause-replies : goal.returns-then-has_reply-clause-replies
returns-then-has_reply-clause-replies c =
    let is : IsTrue c.has_reply.result = search rules in
    let found = subst (λ rows. HasReply rows c.args.call) c.as_slice.ensures.value (c.has_reply.ensures.found is) in
    late_stays c.args.call c.args.core.now.seen (pos c.args.stored.now.marks.seals) c.args.stored.now.replies.items c.args.late.now.items c.requires.so_far (λ done. found)

pub returns-in_ok-push-clause-replies : goal.returns-in_ok-push-clause-replies
returns-in_ok-push-clause-replies c =
    let v = c.args.core.now.seen in
    let epoch = pos c.args.stored.now.marks.seals in
    let stored = c.args.stored.now.replies.items in
    let row = c.in_ok-late_reply.field-0 in
    let is : IsFalse c.has_reply.result = search rules in
    let others = subst (All (λ r. r.call ≢ pos c.args.call)) c.as_slice.ensures.value (c.has_reply.ensures.missing is) in
    let some = replied _ _ _ (rw c.in-Some.is at c.reply.ensures) in
    let reply : numbers_in (string_bytes row.reply) ≡ Some (reply_of (world_of v) c.args.call) = c.in_ok-late_reply.ensures.reply ∙ ap Some (c.values.ensures.same ∙ some.1) in
    subst (AreLateReplies (c.args.call + 1) v epoch stored) (sym c.in_ok-push.ensures.items)
    (late_push c.args.call v epoch stored c.args.late.now.items row c.requires.so_far c.requires.inside (has_none stored c.args.call others) c.in_ok-late_reply.ensures.epoch c.in_ok-late_reply.ensures.call some.0 reply)
