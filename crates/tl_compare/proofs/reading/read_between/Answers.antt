use Rattle.std.proofs.Common.{rules, ◌≡◌, ◌∙◌, sym, w64, to_z, of_z, arith}
use Rattle.tl_compare.proofs.ReadLemmas.{are_between}
use Rattle.tl_compare.proofs.reading.read_between.Goals as goal

pub returns-clause-rows : goal.returns-clause-rows
returns-clause-rows g c = λ clean rows is long.
    let first : to_z w64 (of_z w64 c.args.first) ≡ c.args.first = search rules in
    let last : to_z w64 (of_z w64 c.args.last) ≡ c.args.last = search rules in
    are_between g.T.Entry.columns rows c.args.first c.args.last c.in_ok-from.from c.in_ok-to.to _ (sym first ∙ c.in_ok-from.ensures) (sym last ∙ c.in_ok-to.ensures) (omega arith) (omega (arith, long))
    c.in_ok-read_some.ensures.count (c.in_ok-read_some.ensures.rows clean rows is (omega (arith, long)))
