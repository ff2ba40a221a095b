use Rattle.std.proofs.Common.{arith}
use Rattle.tl_lowering.proofs.RegisterLemmas.{free_behind}
use Rattle.tl_lowering.specs.Choosing.{repeated_times, repeated_up_to}
use Rattle.tl_lowering.proofs.lowering.Lowering.repetition.Goals as goal

pub returns-in_default-clause-named : goal.returns-in_default-clause-named
returns-in_default-clause-named c = rw c.in_default.is (repeated_times c.in_ok-check_depth.ensures c.in_ok-turns.ensures)

pub returns-clause-named : goal.returns-clause-named
returns-clause-named c =
    let free = free_behind c.in_ok-number.number _ _ _ c.in_ok-number.ensures.room c.from.ensures c.behind-free.ensures in
    rw c.in-Some.is (repeated_up_to c.in_ok-check_depth.ensures c.in_ok-number.ensures.named c.in_ok-number.ensures.room (omega (arith, free, c.saturating_add.ensures, c.in_ok-check_registers.ensures)) c.in_ok-turns-2.ensures)
