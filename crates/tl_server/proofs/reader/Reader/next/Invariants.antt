use Rattle.std.proofs.Common.{◌≡◌, ℕ, List, ◌++◌}
use Rattle.std.specs.Prelude.{Some, ◌⊎◌}
use Rattle.tl_server.specs.Lines.{HasNoLf}
use Rattle.tl_server.proofs.Coming.{HasCome}
use Rattle.tl_server.proofs.reader.Reader.next.Given as goal

abbrev pub invariant-loop : goal.invariant-loop
invariant-loop g l =
    ((unread : List ℕ) → g.S.Source.input l.fn.source ≡ Some unread → HasCome (l.fn.self.left ++ unread) l.self (g.S.Source.input l.source))
    × (g.S.Source.failures l.source ≡ g.S.Source.failures l.fn.source)
    × ((l.self.left ≡ l.fn.self.left) ⊎ HasNoLf l.fn.self.left)
