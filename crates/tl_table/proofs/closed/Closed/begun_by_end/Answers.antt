use Rattle.std.proofs.Common.{◌≡◌, ◌∙◌, ap, arith}
use Rattle.tl_tree_locking.specs.History.{admits}
use Rattle.tl_table.specs.Epochs.{seen}
use Rattle.tl_table.proofs.Ended.{begun_few}
use Rattle.tl_table.proofs.closed.Closed.begun_by_end.Goals as goal

pub returns-clause-few : goal.returns-clause-few
returns-clause-few c =
    let v = seen c.self.inside.epoch in
    let m = begun_few v.past c.args.call in
    let a : c.calls-fact.result ≡ admits v.past = c.calls-fact.ensures.admitted ∙ ap (λ s. admits s.seen.past) c.core.ensures in
    let n = c.begun_by_end.ensures.number in
    let f = c.calls-fact.ensures.few in
    omega (arith, m, a, n, f)
