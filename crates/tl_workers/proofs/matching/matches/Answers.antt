use Rattle.tl_workers.proofs.Calls.{known_entries}
use Rattle.tl_workers.proofs.matching.matches.Goals as goal

pub go_in_turn-requires-clause-known : goal.go_in_turn-requires-clause-known
go_in_turn-requires-clause-known c =
    known_entries c.args.chain.now c.requires c.args.session.now.kept c.args.session.now.number (c.asks_its_calls.ensures.0 c.if-not-asks_its_calls.false) (c.gots_stand.ensures.0 c.if-not-gots_stand.false)
