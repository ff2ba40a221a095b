use Rattle.std.proofs.Common.{◌≡◌, ◌<◌, get_or, None, refl, sym, ◌∙◌, subst}
use Rattle.std.proofs.lemmas.Bool.{both_ways}
use Rattle.std.proofs.lemmas.List.{get_or_read}
use Rattle.tl_tree_locking.specs.declared.event.Event.TheVariants as event
use Rattle.tl_audit.specs.Replaying.{IsLed}
use Rattle.tl_audit.proofs.LedCalls.{is_over, differs, put_one, other_end, settled_end, other_reply}
use Rattle.tl_audit.proofs.replays.Replays.end.Goals as goal

pub returns-in_default : goal.returns-in_default
returns-in_default c later past at f =
    let t = c.args.trail.now in
    let items = c.args.self.now.turns.items in
    let call = c.args.call in
    let inside = subst (λ n. call < n) (sym c.requires.size) c.requires.call in
    let read = get_or_read items call c.index_mut.result.now inside c.index_mut.ensures.value None in
    let none : get_or items call None ≡ None = sym read ∙ sym c.take.ensures.value ∙ c.in_default.is in
    is_over t later past (event.Done call) at call refl c.args.self.now _ f c.take.new.self (put_one items call c.take.new.self inside) c.take.ensures.after refl
    (f.settled call c.requires.call at.right.0.rules.may_happen.0 none)

pub returns-in_default-ends : goal.returns-in_default-ends
returns-in_default-ends c later past at f =
    let t = c.args.trail.now in
    let items = c.args.self.now.turns.items in
    let call = c.args.call in
    let inside = subst (λ n. call < n) (sym c.requires.size) c.requires.call in
    let read = get_or_read items call c.index_mut.result.now inside c.index_mut.ensures.value None in
    let led = f.led call c.in-Some.turn (sym read ∙ sym c.take.ensures.value ∙ c.in-Some.is) in
    let old = subst (IsLed t call past) (sym c.deref_mut.ensures.value) led in
    differs t later past (event.Done call) at call refl c.args.self.now c.take_wrong.new.self f c.take.new.self
    (rw c.take_wrong.ensures.turns (put_one items call c.take.new.self inside)) c.take.ensures.after _ refl c.take_wrong.ensures.taken
    (other_end t later past call c.deref_mut.result.now old at c.requires.call (c.ends.ensures.other c.in_default-ends.is))

pub returns-then-not-replies : goal.returns-then-not-replies
returns-then-not-replies c later past at f =
    let t = c.args.trail.now in
    let items = c.args.self.now.turns.items in
    let call = c.args.call in
    let inside = subst (λ n. call < n) (sym c.requires.size) c.requires.call in
    let read = get_or_read items call c.index_mut.result.now inside c.index_mut.ensures.value None in
    let led = f.led call c.in-Some.turn (sym read ∙ sym c.take.ensures.value ∙ c.in-Some.is) in
    let old = subst (IsLed t call past) (sym c.deref_mut.ensures.value) led in
    differs t later past (event.Done call) at call refl c.args.self.now c.take_wrong-then-not-replies.new.self f c.take.new.self
    (rw c.take_wrong-then-not-replies.ensures.turns (put_one items call c.take.new.self inside)) c.take.ensures.after _ refl c.take_wrong-then-not-replies.ensures.taken
    (other_reply t later past call c.deref_mut.result.now old at c.requires.call c.in-Some-ends.reply c.in-Some-ends.ensures.so
    (λ told. both_ways c.replies.result c.if-not-replies.true (c.replies.ensures.1 told)))

pub returns : goal.returns
returns c later past at f =
    let t = c.args.trail.now in
    let items = c.args.self.now.turns.items in
    let call = c.args.call in
    let inside = subst (λ n. call < n) (sym c.requires.size) c.requires.call in
    let read = get_or_read items call c.index_mut.result.now inside c.index_mut.ensures.value None in
    let led = f.led call c.in-Some.turn (sym read ∙ sym c.take.ensures.value ∙ c.in-Some.is) in
    let old = subst (IsLed t call past) (sym c.deref_mut.ensures.value) led in
    is_over t later past (event.Done call) at call refl c.args.self.now _ f c.take.new.self (put_one items call c.take.new.self inside) c.take.ensures.after refl
    (settled_end t later past call c.deref_mut.result.now old at c.requires.call c.in-Some-ends.reply c.in-Some-ends.ensures.so c.args.self.now.least
    (c.replies.ensures.0 c.if-not-replies.false))
