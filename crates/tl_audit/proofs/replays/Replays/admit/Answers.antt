use Rattle.std.proofs.Common.{◌<◌, ◌∷◌, refl, sym, subst}
use Rattle.tl_tree_locking.specs.declared.event.Event.TheVariants as event
use Rattle.tl_audit.specs.Replaying.{IsLed}
use Rattle.tl_audit.proofs.LedCalls.{goes_on, put_one, led_start, open_start}
use Rattle.tl_audit.proofs.replays.Replays.admit.Goals as goal

pub returns : goal.returns
returns c later past at f =
    let t = c.args.trail.now in
    let items = c.args.self.now.turns.items in
    let call = c.args.call in
    let inside = subst (λ n. call < n) (sym c.requires.size) c.requires.call in
    let turn = c.in_ok-start.field-0 in
    let e = c.in_ok-start.ensures in
    let led = led_start t f.trail call c.requires.call past at.right turn e.parents e.left e.reply in
    goes_on t later past (event.Admit call) at call refl c.args.self.now _ f _ (put_one items call _ inside) c.in_ok-turn.turn refl refl
    (subst (IsLed t call (event.Admit call ∷ past)) (sym c.in_ok-turn.ensures.ok) led) (open_start t call past at.right)
