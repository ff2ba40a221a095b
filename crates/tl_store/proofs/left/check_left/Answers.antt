use Rattle.tl_store.proofs.left.check_left.Goals as goal

pub returns-then-branch-clause-left : goal.returns-then-branch-clause-left
returns-then-branch-clause-left g c = λ clean contents holds. record {
  rows = c.in_ok-stored.stored;
  stored = c.in_ok-stored.ensures.stored clean contents holds;
  left = c.in_ok-is_left.ensures c.if-branch.true;
}
