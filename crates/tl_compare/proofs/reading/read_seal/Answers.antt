use Rattle.std.proofs.Common.{◌≡◌, ◌∙◌, length, get_or, ap, arith}
use Rattle.tl_ledger.specs.declared.schema.TheConstants.{SEAL}
use Rattle.tl_ledger.specs.News.{seal_columns}
use Rattle.tl_compare.proofs.ReadLemmas.{one_read}
use Rattle.tl_compare.proofs.reading.read_seal.Goals as goal

pub returns-clause-seal : goal.returns-clause-seal
returns-clause-seal g c = λ clean contents holds long.
    let one : length c.in_ok-seals.seals.items ≡ 1 = omega (arith, c.in_ok-seals.ensures.count) in
    let only : c.only_seal.result ≡ get_or c.in_ok-seals.seals.items 0 c.only_seal.result = c.only_seal.ensures ∙ ap (λ l. get_or l 0 c.only_seal.result) c.as_slice.ensures.value in
    one_read seal_columns (contents SEAL) c.args.epoch c.in_ok-seals.seals.items c.only_seal.result one only (omega (arith, long))
    (c.in_ok-seals.ensures.rows clean (contents SEAL) (holds.numbered SEAL (omega arith)) (omega (arith, long)))
