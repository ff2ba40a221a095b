use Rattle.std.proofs.Common.{◌≡◌, ◌∙◌, sym}
use Rattle.std.specs.Cmp.Rules.{signed_items}
use Rattle.tl_store.proofs.ReplyLemmas.{replied}
use Rattle.tl_store.proofs.replies.has_replied.Goals as goal

pub returns-in-Some-clause-done : goal.returns-in-Some-clause-done
returns-in-Some-clause-done c = λ same. (replied _ _ _ (rw c.in-Some.is at c.reply.ensures)).0

pub returns-in-Some-clause-told : goal.returns-in-Some-clause-told
returns-in-Some-clause-told c = λ known over same.
    c.eq.ensures ∙ (signed_items c.values.result.now c.args.values.now).1 (c.values.ensures.same ∙ (replied _ _ _ (rw c.in-Some.is at c.reply.ensures)).1 ∙ same)

pub returns-in-Some-clause-reply : goal.returns-in-Some-clause-reply
returns-in-Some-clause-reply c = λ same.
    let equal : c.values.result.now ≡ c.args.values.now = (signed_items c.values.result.now c.args.values.now).0 (sym c.eq.ensures ∙ same) in
    sym (replied _ _ _ (rw c.in-Some.is at c.reply.ensures)).1 ∙ sym c.values.ensures.same ∙ equal
