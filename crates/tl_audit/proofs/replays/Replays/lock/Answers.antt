use Rattle.std.proofs.Common.{◌≡◌, get_or, None, refl, sym, ◌∙◌, subst}
use Rattle.std.proofs.lemmas.List.{get_or_read}
use Rattle.tl_tree_locking.specs.declared.event.Event.TheVariants as event
use Rattle.tl_audit.specs.Replaying.{IsLed}
use Rattle.tl_audit.proofs.LedCalls.{goes_on, is_over, differs, put_one, put_two, led_lock, other_lock}
use Rattle.tl_audit.proofs.replays.Replays.lock.Goals as goal

pub returns-in_default : goal.returns-in_default
returns-in_default c t later past at f =
    let items = c.args.self.now.turns.items in
    let call = c.args.call in
    let read = get_or_read items call c.index_mut.result.now c.requires c.index_mut.ensures.value None in
    let none : get_or items call None ≡ None = sym read ∙ sym c.take.ensures.value ∙ c.in_default.is in
    is_over t later past (event.Lock c.args.node call c.args.found) at call refl c.args.self.now _ f c.take.new.self (put_one items call c.take.new.self c.requires) c.take.ensures.after refl
    (f.settled call (rw (sym f.size) c.requires) at.right.0.rules.may_happen.0 none)

pub returns-then-locks : goal.returns-then-locks
returns-then-locks c t later past at f =
    let items = c.args.self.now.turns.items in
    let call = c.args.call in
    let read = get_or_read items call c.index_mut.result.now c.requires c.index_mut.ensures.value None in
    let led = f.led call c.in-Some.turn (sym read ∙ sym c.take.ensures.value ∙ c.in-Some.is) in
    let old = subst (IsLed t call past) (sym c.deref_mut.ensures.value) led in
    goes_on t later past (event.Lock c.args.node call c.args.found) at call refl c.args.self.now _ f _ (put_two items call c.take.new.self _ c.requires) _ refl refl
    (led_lock t later past call c.args.node c.args.found c.deref_mut.result.now old at f.trail c.locks.new.turn c.locks.ensures.parents (c.locks.ensures.on c.if-locks.true))
    at.right.0.rules.may_happen.1

pub returns-else-locks : goal.returns-else-locks
returns-else-locks c t later past at f =
    let items = c.args.self.now.turns.items in
    let call = c.args.call in
    let read = get_or_read items call c.index_mut.result.now c.requires c.index_mut.ensures.value None in
    let led = f.led call c.in-Some.turn (sym read ∙ sym c.take.ensures.value ∙ c.in-Some.is) in
    let old = subst (IsLed t call past) (sym c.deref_mut.ensures.value) led in
    differs t later past (event.Lock c.args.node call c.args.found) at call refl c.args.self.now c.take_wrong.new.self f c.take.new.self
    (rw c.take_wrong.ensures.turns (put_one items call c.take.new.self c.requires)) c.take.ensures.after _ refl c.take_wrong.ensures.taken
    (other_lock t later past call c.args.node c.args.found c.deref_mut.result.now old at (rw (sym f.size) c.requires) (c.locks.ensures.other c.if-locks.false))
