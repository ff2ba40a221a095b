-- Right events form a legal history.
use Rattle.std.proofs.Common.{ℕ, List, [], ◌∷◌}
use Rattle.tl_tree.specs.Records.{Records}
use Rattle.tl_tree_locking.specs.declared.event.Event.{Event}
use Rattle.tl_tree_locking.specs.History.{IsLegalHistory}
use Rattle.tl_tree_locking.proofs.RulesLemmas.{legal_next}
use Rattle.tl_trail.specs.Clean.{AreRight}

pub right_legal : (parents : List ℕ) (opening : Records) (past : List Event) → AreRight parents opening past → IsLegalHistory parents past
right_legal parents opening [] r = record { obeys = λ c. tt; apart = tt; in_turn = tt }
right_legal parents opening (e ∷ past) r = legal_next parents e past r.0.rules r.0.apart (right_legal parents opening past r.1)
