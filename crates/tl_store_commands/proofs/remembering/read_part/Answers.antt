use Rattle.std.proofs.Common.{◌≡◌, ◌-◌, ℕ, length, map, take, drop, subst, arith}
use Rattle.tl_store_commands.proofs.remembering.read_part.Goals as goal

pub returns-clause-rows : goal.returns-clause-rows
returns-clause-rows g c = λ clean columns is few.
    let items = c.in_ok-read_some.field-0.items in
    let many : length items ≡ c.args.last - c.args.first = omega (arith, c.in_ok-read_some.ensures.count) in
    subst (λ (n : ℕ). map g.T.Entry.columns items ≡ take n (drop c.args.first columns)) many
    (c.in_ok-read_some.ensures.rows clean columns is (omega (arith, few, c.requires.order)))
