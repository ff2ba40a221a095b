use Rattle.tl_audit.proofs.SeamLemmas.{zeros_follow, zeros_found}
use Rattle.tl_audit.proofs.chain.are_followed_by_zeros.Goals as goal

pub returns-then-are_same : goal.returns-then-are_same
returns-then-are_same c =
    let first = c.args.first.now in
    let records = c.args.records.now in (
      (λ t. zeros_follow first records (c.are_same.ensures.0 c.if-are_same.true) (c.are_zeros.ensures.0 t)),
      (λ z. c.are_zeros.ensures.1 (zeros_found first records z.0 z.1)),
    )
