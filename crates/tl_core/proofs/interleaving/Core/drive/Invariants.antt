use Rattle.std.proofs.Common.{◌≡◌, ◌≤◌, ℕ, ◌++◌, length, take, vec_len, vec_capacity}
use Rattle.tl_core.specs.Cores.{done_by}
use Rattle.tl_core.specs.Entries.{Traced, after_moves, part_of_run, moved}
use Rattle.tl_core.proofs.DriveLemmas.{spent, IsCounted}
use Rattle.tl_core.proofs.interleaving.Core.drive.Given as goal

abbrev pub invariant-loop-one : goal.invariant-loop-one
invariant-loop-one l = record {
  traced : Traced l.fn.self.seen (take l.one-index l.moves) l.trace.items;
  after : l.self.seen ≡ after_moves l.fn.self.seen (take l.one-index l.moves) l.trace.items;
  size : vec_len l.trace ≡ l.one-index;
  room : length l.moves ≤ vec_capacity l.trace;
  parts : (c : ℕ) → done_by l.self.seen c ≡ done_by l.fn.self.seen c ++ part_of_run c l.trace.items;
  counted : IsCounted l.self.seen;
  few : moved l.trace.items ≤ spent l.self.seen;
}
