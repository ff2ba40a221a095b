use Rattle.std.proofs.Common.{◌≡◌}
use Rattle.tl_server.proofs.relay.Relay.perform_by_engine.Given as goal

abbrev pub invariant-loop : goal.invariant-loop
invariant-loop g l = l.place ≡ l.fn.place
