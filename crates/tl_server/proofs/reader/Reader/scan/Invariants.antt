use Rattle.std.proofs.Common.{◌≡◌, ◌≤◌, ◌<◌, ◌-◌, ◌++◌, ℕ, List, vec_len, drop, take}
use Rattle.std.specs.Prelude.{vec_capacity}
use Rattle.tl_server.specs.Lines.{HasNoLf}
use Rattle.tl_server.specs.Coming.{held_of}
use Rattle.tl_server.proofs.reader.Reader.scan.Given as goal

abbrev pub invariant-loop-self : goal.invariant-loop-self
invariant-loop-self l =
    let r = l.self-inside in
    ((q : List ℕ) × HasNoLf q × (l.fn.self.left ≡ q ++ drop r.at (take r.end r.piece.items)) × (r.held.items ≡ held_of (l.fn.self.held ++ q)))
    × (r.at ≤ r.end) × (r.end ≤ vec_len r.piece) × (l.end ≡ r.end) × (0 < vec_len r.piece) × (65537 ≤ vec_capacity r.held) × (vec_len r.held ≤ 65537)

abbrev pub decreases-loop-self : goal.decreases-loop-self
decreases-loop-self l = l.end - l.self-inside.at
