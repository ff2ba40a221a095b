use Rattle.std.proofs.Common.{◌≡◌, sym, ◌∙◌}
use Rattle.tl_machine.specs.declared.want.Want.TheVariants as want
use Rattle.tl_machine.specs.declared.want.Stop.TheVariants as stop
use Rattle.tl_machine.proofs.TurnLemmas.{two_wants}
use Rattle.tl_machine.proofs.turn.Turn.lock.Goals as goal

pub unreachable-requires : goal.unreachable-requires
unreachable-requires c =
    let turn = c.args.self.now in
    let same : c.want.result ≡ want.Stop (stop.Lock c.requires.0) = two_wants turn.code.instrs turn.parents turn.call c.want.result (want.Stop (stop.Lock c.requires.0)) c.want.ensures c.requires.1 in
    c.in_default.not-Stop _ same

pub unreachable-requires-in_default-stop : goal.unreachable-requires-in_default-stop
unreachable-requires-in_default-stop c =
    let turn = c.args.self.now in
    let same : c.want.result ≡ want.Stop (stop.Lock c.requires.0) = two_wants turn.code.instrs turn.parents turn.call c.want.result (want.Stop (stop.Lock c.requires.0)) c.want.ensures c.requires.1 in
    let e : want.Stop c.in-Stop.stop ≡ want.Stop (stop.Lock c.requires.0) = sym c.in-Stop.is ∙ same in
    c.in_default-stop.not-Lock c.requires.0 cc
