use Rattle.tl_tree_locking.proofs.Holders.{held-holder, holder-held, coming_holder, stuck_holder, holder_stuck, holderless_may_take}
use Rattle.tl_tree_locking.proofs.laws.holders.Goals as goal

pub returns-clause-held : goal.returns-clause-held
returns-clause-held c = λ parents past call x legal. (holder-held parents past legal call x, held-holder parents past legal call x)

pub returns-clause-waits : goal.returns-clause-waits
returns-clause-waits c = λ w call stuck sound. stuck_holder w sound call stuck

pub returns-clause-stuck : goal.returns-clause-stuck
returns-clause-stuck c = λ w call x found d sound is_open next holder. holder_stuck w sound call x found d is_open next holder

pub returns-clause-coming : goal.returns-clause-coming
returns-clause-coming c = λ parents past call x tree legal may. coming_holder parents tree past legal call x may

pub returns-clause-free : goal.returns-clause-free
returns-clause-free c = λ w call next sound is_open is_next none. holderless_may_take w sound call next is_open is_next none
