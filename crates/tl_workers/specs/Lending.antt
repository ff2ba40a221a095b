-- What a session lends.
use Rattle.std.specs.Borrow.{Lends, MutBor, Fml}
use Rattle.tl_ready.specs.declared.rule.Handed.{Handed}
use Rattle.tl_ready.specs.contracts.ready.ReadyPass.{the_row as pass_row}
use Rattle.tl_workers.specs.Kept.{SessionValue}
use Rattle.tl_workers.specs.contracts.session.Session.{the_row}

-- a session that lends its pass keeps its value, whatever is done with the pass
abbrev pub LendsPass : MutBor SessionValue → MutBor Handed → Fml
LendsPass s r = Lends the_row pass_row s r (λ handed. s.now)
