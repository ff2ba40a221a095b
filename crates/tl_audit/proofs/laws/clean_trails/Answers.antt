use Rattle.tl_audit.proofs.CleanTrailLemmas.{clean_sound, clean_legal, clean_obeys, clean_agrees, clean_tree, clean_replies, clean_told, clean_faultless}
use Rattle.tl_audit.proofs.laws.clean_trails.Goals as goal

pub returns-clause-sound : goal.returns-clause-sound
returns-clause-sound c = λ t is clean. clean_sound t is clean

pub returns-clause-legal : goal.returns-clause-legal
returns-clause-legal c = λ t is clean. clean_legal t is clean

pub returns-clause-obeys : goal.returns-clause-obeys
returns-clause-obeys c = λ t call is clean lt. clean_obeys t is clean call lt

pub returns-clause-agrees : goal.returns-clause-agrees
returns-clause-agrees c = λ t is clean. clean_agrees t is clean

pub returns-clause-tree : goal.returns-clause-tree
returns-clause-tree c = λ t is clean. clean_tree t is clean

pub returns-clause-replies : goal.returns-clause-replies
returns-clause-replies c = λ t is clean. clean_replies t is clean

pub returns-clause-told : goal.returns-clause-told
returns-clause-told c = λ t call clean lt. clean_told t call clean lt

pub returns-clause-faultless : goal.returns-clause-faultless
returns-clause-faultless c = λ t f clean. clean_faultless t f clean
