use Rattle.std.proofs.Common.{◌≡◌, ◌↔◌, drop}
use Rattle.tl_workers.specs.Matching.{asked_in, asked_from, all_calls_of}
use Rattle.tl_workers.proofs.matching.asks_its_calls.Given as goal

abbrev pub invariant-loop-closed : goal.invariant-loop-closed
invariant-loop-closed l = (asked_in l.session.kept ≡ all_calls_of l.chain l.session.number) ↔ (asked_from l.session.kept l.from ≡ all_calls_of (drop l.closed-index l.chain) l.session.number)
