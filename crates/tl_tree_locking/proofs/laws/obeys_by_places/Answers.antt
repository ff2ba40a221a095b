use Rattle.tl_tree_locking.proofs.ObeysByPlaces.{obeys_places, obeys_first, obeys_alone}
use Rattle.tl_tree_locking.proofs.Permitted.{places_permitted, permitted_ends, places_legal}
use Rattle.tl_tree_locking.specs.History.{part_of}
use Rattle.tl_tree_locking.proofs.laws.obeys_by_places.Goals as goal

pub returns-clause-part : goal.returns-clause-part
returns-clause-part c = λ parents past call legal. obeys_places parents (part_of call past) (legal.obeys call)

pub returns-clause-alone : goal.returns-clause-alone
returns-clause-alone c = λ parents alone t is_alone size. obeys_alone parents alone is_alone t size

pub returns-clause-so_far : goal.returns-clause-so_far
returns-clause-so_far c = λ parents alone t k is_alone size. obeys_first parents alone is_alone t size k

pub returns-clause-permitted : goal.returns-clause-permitted
returns-clause-permitted c = λ parents done. (λ each. (obeys_places parents done each, permitted_ends parents done each), λ h. places_permitted parents done h.0 h.1)

pub returns-clause-legal : goal.returns-clause-legal
returns-clause-legal c = λ parents past obeys apart turn. places_legal parents past obeys apart turn
