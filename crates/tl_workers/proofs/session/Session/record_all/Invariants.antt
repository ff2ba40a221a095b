use Rattle.std.proofs.Common.{◌≡◌, ◌≤◌, ◌+◌, ◌++◌, length, drop}
use Rattle.tl_workers.specs.Kept.{askings_of, gots_of}
use Rattle.tl_workers.proofs.session.Session.record_all.Given as goal

abbrev pub invariant-loop-one : goal.invariant-loop-one
invariant-loop-one l =
    (l.self-inside.number ≡ l.fn.self.number)
    × (l.self-inside.notes.kept ++ askings_of (drop l.one-index l.admitted) ≡ l.fn.self.kept ++ askings_of l.admitted)
    × (length l.admitted ≤ l.self-inside.notes.asks + l.one-index)
    × (length l.answers ≤ l.self-inside.notes.gots)

abbrev pub invariant-loop-answer : goal.invariant-loop-answer
invariant-loop-answer l =
    (l.self-inside.number ≡ l.fn.self.number)
    × (l.self-inside.notes.kept ++ gots_of (drop l.answer-index l.answers) ≡ l.fn.self.kept ++ (askings_of l.admitted ++ gots_of l.answers))
    × (length l.answers ≤ l.self-inside.notes.gots + l.answer-index)
